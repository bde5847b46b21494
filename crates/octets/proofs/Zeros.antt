-- Strings that are all zero. Assumes nothing.
use mathlib.Core.Path.{◌≡◌, refl, sym, ap, ap₂, ◌∙◌}
use mathlib.Core.Bool.{Bool, true, ◌&&◌, and_assoc}
use Prim.Native.Nat.{ℕ, zero, suc}
use mathlib.Core.List.{List, [], ◌∷◌, ◌++◌}
use lib.ListN.{length, replicate}
use lib.Dec.{eqb}
use borrow.Author.Tests.{eqb-true}
use Rattle.octets.specs.Strings.{all_zero}
use Rattle.octets.proofs.RoundTrips.{and_left, and_right}

pub zero_append : (a b : List ℕ) → all_zero (a ++ b) ≡ (all_zero a && all_zero b)
unfolding all_zero
zero_append [] b = refl
zero_append (x ∷ a) b = ap (λ (p : Bool). eqb x 0 && p) (zero_append a b) ∙ sym (and_assoc (eqb x 0) (all_zero a) (all_zero b))

pub zero_is : (s : List ℕ) → all_zero s ≡ true → s ≡ replicate (length s) 0
unfolding all_zero
zero_is [] h = refl
zero_is (x ∷ s) h = ap₂ (λ (b : ℕ) (l : List ℕ). b ∷ l) (eqb-true x 0 (and_left (eqb x 0) (all_zero s) h)) (zero_is s (and_right (eqb x 0) (all_zero s) h))

pub zeros_are : (n : ℕ) → all_zero (replicate n 0) ≡ true
unfolding all_zero
zeros_are zero = refl
zeros_are (suc n) = zeros_are n
