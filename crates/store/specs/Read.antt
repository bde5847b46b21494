-- The read. 02, M-104: "It reads by label and height; the first undamaged block that has both answers, and is copied out whole."
use Rattle.std.specs.Prelude.{Bool, not, cond, ◌&&◌, List, [], ◌∷◌, ℕ, length, eqb, ltb}
use Rattle.refusals.specs.{accepted, area_too_short, record_not_sound, no_such_ledger, block_damaged}
use Rattle.refusals.specs.Order.{Test, ◌⇒◌, first}
use Rattle.octets.specs.Strings.{same, put}
use Rattle.checks.specs.Check.{block_bytes}
use Rattle.cabinet.specs.Block.{label_in, height_in, sound}
use Rattle.store.specs.Area.{blocks, area_right, block_at, first_place, holds_damaged}

-- an answer, how many bytes are written, and the output as the call leaves it
pub record Copied : Type 0 where
  pub number : ℕ
  pub written : ℕ
  pub height : ℕ
  pub output : List ℕ

-- "undamaged block that has both"; an unused block answers nothing
unfoldable pub answers : List ℕ → ℕ → List ℕ → Bool
answers label height b = eqb (height_in b) height && (same (label_in b) label && sound b)

unfoldable pub first_answer : List ℕ → List ℕ → ℕ → ℕ → ℕ
first_answer area label height n = first_place (λ i. answers label height (block_at area i)) n

-- "1 for an output under 512 bytes, 2 for the area's size, and where no undamaged block answers 35 if the area holds a damaged block, otherwise 10"
unfoldable pub read_tests : List ℕ → List ℕ → ℕ → List ℕ → List Test
read_tests area label height output =
    (ltb (length output) block_bytes ⇒ area_too_short)
    ∷ (not (area_right area) ⇒ record_not_sound)
    ∷ (eqb (first_answer area label height (blocks area)) (blocks area) && holds_damaged area ⇒ block_damaged)
    ∷ (eqb (first_answer area label height (blocks area)) (blocks area) ⇒ no_such_ledger)
    ∷ []

unfoldable pub reading : List ℕ → List ℕ → ℕ → List ℕ → Copied
reading area label height output =
    cond (eqb (first (read_tests area label height output)) accepted)
    (record {
      number = accepted;
      written = block_bytes;
      height = 0;
      output = put output 0 (block_at area (first_answer area label height (blocks area)));
    })
    (record { number = first (read_tests area label height output); written = 0; height = 0; output = output })
