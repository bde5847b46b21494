use Rattle.std.proofs.Common.{ℕ, ◌%◌, set, ap₂}
use Rattle.hash.specs.Rounds.{Eight}
use Rattle.hash.specs.Turns.{turn}
use Rattle.hash.proofs.turn.one_turn.Goals as goal

pub returns : goal.returns
unfolding turn
returns c =
    let a = c.args in
    ap₂ (λ (v : ℕ) (y : Eight). record { area = set a.w.now (a.t % 16) v; state = y })
    c.word_after.ensures c.round_at-next.ensures
