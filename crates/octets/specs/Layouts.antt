-- What a layout is, and reading and writing by it. 01, "Layouts": "Reading a rack, roll or statement by itself refuses .. exactly when the layout is
-- broken; writing one refuses with that number for contents no reading gives, then with 1 for an area too short."
use Rattle.std.specs.Prelude.{Bool, cond, ◌&&◌, List, ℕ, length, ltb}
use Rattle.std.proofs.Math.Option.{Option, none, some}
use Rattle.octets.specs.Strings.{put, same}
use Rattle.refusals.specs.{accepted, area_too_short}

pub record Layout (C : Type 0) : Type 0 where
  -- the string that contents are written as
  pub written : C → List ℕ
  -- a string taken apart, whether or not the layout holds
  pub cut : List ℕ → C
  -- whether the contents are such as the layout has
  pub fits : C → Bool

-- the layout holds of a string: it is what fitting contents are written as
unfoldable pub holds : {C : Type 0} → Layout C → List ℕ → Bool
holds L s = L.fits (L.cut s) && same (L.written (L.cut s)) s

-- the contents of a string
unfoldable pub read : {C : Type 0} → Layout C → List ℕ → Option C
read L s = cond (holds L s) (some (L.cut s)) none

-- an answer, how many bytes are written, and the area as the call leaves it
pub record Written : Type 0 where
  pub answer : ℕ
  pub count : ℕ
  pub area : List ℕ

-- a refusal: its number, and nothing changes
unfoldable pub unwritten : ℕ → List ℕ → Written
unwritten n area = record { answer = n; count = 0; area = area }

-- "the number of bytes written; these are the first of the output area, and the rest of it stays"
unfoldable pub writing : {C : Type 0} → Layout C → ℕ → C → List ℕ → Written
writing L broken v area =
    cond (L.fits v)
    (cond (ltb (length area) (length (L.written v)))
    (unwritten area_too_short area)
    (record { answer = accepted; count = length (L.written v); area = put area 0 (L.written v) }))
    (unwritten broken area)
