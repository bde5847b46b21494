-- Worked examples for the definitions, computed by the checker, where two readers of 01 could differ. Assumes nothing.
use mathlib.Core.Path.{◌≡◌, refl}
use mathlib.Core.Bool.{false}
use mathlib.Core.Option.{some}
use mathlib.Core.List.{List, [], ◌∷◌, ◌++◌, flatten}
use Prim.Native.Nat.{ℕ}
use lib.ListN.{replicate}
use Rattle.refusals.specs.{rack_broken}
use Rattle.octets.specs.Strings.{put, all_zero, same, before, pieces, rising}
use Rattle.octets.specs.Layouts.{holds, read, unwritten, writing}
use Rattle.rack.specs.Racks.{rack_written, rack_cut, rack_fits, rack_layout}

-- a key of one byte again and again, and as many unused places
abbrev pub key : ℕ → List ℕ
key b = replicate 32 b

abbrev pub unused : ℕ → List (List ℕ)
unused n = replicate n (key 0)

-- a rack of two is taken apart; the places after its keys are zero
pub two : read rack_layout (2 ∷ key 1 ++ key 7) ≡ some (record { count = 2; keys = key 1 ∷ key 7 ∷ unused 13 })
unfolding all_zero same before pieces rising flatten holds read rack_written rack_cut rack_fits
two = refl

-- the first key may be all zero
pub zero_key : read rack_layout (1 ∷ key 0) ≡ some (record { count = 1; keys = unused 15 })
unfolding all_zero same before pieces rising flatten holds read rack_written rack_cut rack_fits
zero_key = refl

-- the same key twice, a byte after the last key, a byte too few, nothing at all
pub no_racks :
    (holds rack_layout (2 ∷ key 1 ++ key 1) ≡ false) × (holds rack_layout (1 ∷ key 1 ++ (0 ∷ [])) ≡ false)
    × (holds rack_layout (1 ∷ replicate 31 1) ≡ false) × (holds rack_layout [] ≡ false)
unfolding all_zero same before pieces rising flatten holds rack_written rack_cut rack_fits
no_racks = (refl, refl, refl, refl)

-- a rack of one needs 33 bytes, and the byte after them stays
pub one_written :
    writing rack_layout rack_broken (record { count = 1; keys = key 5 ∷ unused 14 }) (replicate 34 9)
    ≡ record { answer = 0; count = 33; area = 1 ∷ key 5 ++ (9 ∷ []) }
unfolding put all_zero before rising flatten unwritten writing rack_written rack_fits
one_written = refl

pub one_too_short :
    writing rack_layout rack_broken (record { count = 1; keys = key 5 ∷ unused 14 }) (replicate 32 9)
    ≡ record { answer = 1; count = 0; area = replicate 32 9 }
unfolding put all_zero before rising flatten unwritten writing rack_written rack_fits
one_too_short = refl

-- a place that is not used and not zero, also where the area is too short
pub unused_not_zero :
    writing rack_layout rack_broken (record { count = 1; keys = key 5 ∷ key 6 ∷ unused 13 }) [] ≡ record { answer = 6; count = 0; area = [] }
unfolding put all_zero before rising flatten unwritten writing rack_written rack_fits
unused_not_zero = refl
