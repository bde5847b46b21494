use Rattle.std.proofs.Common.{ℕ, ◌%◌, List, get_or, ap, ◌∙◌}
use Rattle.hash.specs.Rounds.{round}
use Rattle.hash.specs.Sha256.{sha_256}
use Rattle.hash.specs.Turns.{eight, reads}
use Rattle.hash.proofs.turn.round_at.Goals as goal

pub returns : goal.returns
unfolding reads sha_256
returns c =
    let a = c.args in
    c.one_round.ensures
    ∙ ap (λ (l : List ℕ). round sha_256 (eight a.s) (get_or l a.t 0) (get_or a.w.now (a.t % 16) 0)) a.table.now.as_printed
