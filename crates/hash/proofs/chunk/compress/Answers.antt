use Rattle.std.proofs.Common.{ℕ, List, refl, ◌∙◌, ap₂}
use Rattle.hash.specs.Padding.{words}
use Rattle.hash.specs.Rounds.{Eight, initial}
use Rattle.hash.specs.Sha256.{sha_256}
use Rattle.hash.specs.Turns.{turn, steps}
use Rattle.hash.proofs.Stored.{words-length}
use Rattle.hash.proofs.Turns.{compressed_by}
use Rattle.hash.proofs.chunk.compress.Goals as goal

pub returns : goal.returns
unfolding sha_256
returns c =
    let a = c.args in
    let M : List ℕ = words 4 a.chunk.now 16 in
    c.sums.ensures
    ∙ compressed_by sha_256 M (words-length 4 a.chunk.now 16) (initial a.h) a.h _ _ refl
    (c.first_rounds-first.ensures
    ∙ ap₂ (λ (l : List ℕ) (s : Eight). steps (turn sha_256) (record { area = l; state = s }) 0 48) c.fill.ensures c.working.ensures)
    c.last_rounds.ensures
