-- The whole outcomes of the two calls on an entry of a bundle. 01, "Bytes to check": "22 if that list has no such entry"; "Parts of the product": "The chip's
-- findings arrive as a marks byte: bit 0 .., bit 1 ..; other bits must be zero, otherwise 22."
use Rattle.std.specs.Prelude.{cond, ◌&&◌, List, ℕ, set}
use Rattle.refusals.specs.{accepted, list_broken}
use Rattle.marks.specs.{marks_fit}
use Rattle.marking.specs.declared.Position.{Position}
use Rattle.marking.specs.Entry.{position_of, marks_place, has_entry}

-- the position of the entry; "Result fields not named for an answer are zero."
unfoldable pub positioned : List ℕ → ℕ → ℕ → Position
positioned s list i =
    cond (has_entry s list i)
    (record { number = accepted; position = position_of s list i })
    (record { number = list_broken; position = 0 })

-- an answer, and the bundle as the call leaves it
pub record Marked : Type 0 where
  pub answer : ℕ
  pub bundle : List ℕ

-- the marks byte of the entry is the one given, and all else stays; "A refusal .. changes nothing lent."
unfoldable pub marking : List ℕ → ℕ → ℕ → ℕ → Marked
marking s list i m =
    cond (has_entry s list i && marks_fit m)
    (record { answer = accepted; bundle = set s (marks_place s list i) m })
    (record { answer = list_broken; bundle = s })
