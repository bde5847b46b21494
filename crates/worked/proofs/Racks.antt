-- What the rules ask of the two racks. Assumes nothing.
use mathlib.Core.Path.{◌≡◌, refl, ap}
use mathlib.Core.Bool.{true, false}
use mathlib.Core.List.{List, flatten}
use Prim.Native.Nat.{ℕ}
use lib.Dec.{eqb}
use Rattle.octets.specs.Strings.{all_zero, same, before, pieces, rising}
use Rattle.octets.specs.Layouts.{holds}
use Rattle.rack.specs.Racks.{rack_layout, rack_written, rack_cut, rack_fits, is_among, is_of_two, rack_digest}
use Rattle.rules.specs.Initialise.{is_in_rack}
use Rattle.rules.specs.Activate.{rack_size}
use Rattle.safety.specs.Chip.{key_at}
use Rattle.worked.proofs.Strings.{key, rack_A, rack_B, digest_A, digest_B}
use Rattle.worked.proofs.Digests.{digest_of_A, digest_of_B}

-- a rack of three keys, with its digest
pub record Known (rack digest a b c : List ℕ) : Type 0 where
  pub rack_holds : holds rack_layout rack ≡ true
  pub size_is : rack_size rack ≡ 3
  pub digest_is : rack_digest rack ≡ digest
  pub a_in : is_in_rack a rack ≡ true
  pub b_in : is_in_rack b rack ≡ true
  pub c_in : is_in_rack c rack ≡ true
  pub a_at : key_at rack 0 ≡ a
  pub b_at : key_at rack 1 ≡ b
  pub c_at : key_at rack 2 ≡ c

pub more_than_two : {rack digest a b c : List ℕ} → Known rack digest a b c → is_of_two rack ≡ false
unfolding is_of_two
more_than_two k = ap (λ (n : ℕ). eqb n 2) k.size_is

-- opens, with its own name, both racks and all that a rack is taken apart by
unfoldable taken_apart : ℕ
unfolding rack_A rack_B flatten all_zero same before pieces rising holds rack_written rack_cut rack_fits is_among is_in_rack key_at
taken_apart = 0

pub known_A : Known rack_A digest_A (key 1) (key 2) (key 3)
unfolding taken_apart
known_A =
    record {
      rack_holds = refl;
      size_is = refl;
      digest_is = digest_of_A;
      a_in = refl;
      b_in = refl;
      c_in = refl;
      a_at = refl;
      b_at = refl;
      c_at = refl;
    }

pub known_B : Known rack_B digest_B (key 4) (key 5) (key 6)
unfolding taken_apart
known_B =
    record {
      rack_holds = refl;
      size_is = refl;
      digest_is = digest_of_B;
      a_in = refl;
      b_in = refl;
      c_in = refl;
      a_at = refl;
      b_at = refl;
      c_at = refl;
    }
