-- 01, "Numbers to try", marked P, as far as they speak of racks. Assumes nothing.
use mathlib.Core.Path.{◌≡◌, refl}
use mathlib.Core.Bool.{true}
use mathlib.Core.List.{List, ◌∷◌}
use Prim.Native.Nat.{ℕ}
use lib.ListN.{length}
use Rattle.refusals.specs.{rack_broken}
use Rattle.octets.specs.Layouts.{holds, read, unwritten, writing}
use Rattle.rack.specs.Racks.{majority, rack_cut, rack_fits, rack_layout}
use Rattle.rack.specs.Promise.{taken, reading}
use Rattle.rack.proofs.RackTrips.{rack_length}

-- "majorities of 1, 2, 3, 4, 15: 1, 2, 2, 3, 8"
pub majorities : (majority 1 ≡ 1) × (majority 2 ≡ 2) × (majority 3 ≡ 2) × (majority 4 ≡ 3) × (majority 15 ≡ 8)
majorities = (refl, refl, refl, refl, refl)

-- "a rack with n = 0 or 16: 6", whatever follows the byte n, and whatever the keys are
module _ (s : List ℕ) (keys : List (List ℕ)) where
  pub none_is_broken : reading (0 ∷ s) keys ≡ record { answer = 6; count = 0; keys = keys }
  unfolding holds read taken reading rack_cut rack_fits
  none_is_broken = refl

  pub sixteen_is_broken : reading (16 ∷ s) keys ≡ record { answer = 6; count = 0; keys = keys }
  unfolding holds read taken reading rack_cut rack_fits
  sixteen_is_broken = refl

  pub none_is_not_written : writing rack_layout rack_broken (record { count = 0; keys = keys }) s ≡ record { answer = 6; count = 0; area = s }
  unfolding writing unwritten rack_fits
  none_is_not_written = refl

  pub sixteen_is_not_written : writing rack_layout rack_broken (record { count = 16; keys = keys }) s ≡ record { answer = 6; count = 0; area = s }
  unfolding writing unwritten rack_fits
  sixteen_is_not_written = refl

-- "A rack of 15 has 481 bytes."
pub fifteen : (s : List ℕ) → holds rack_layout s ≡ true → (rack_cut s).count ≡ 15 → length s ≡ 481
fifteen s h e = rw e at (rack_length s h)
