-- Strings compared from the front: what a byte decides, and what is left when one ends. Assumes nothing.
use mathlib.Core.Path.{◌≡◌, refl, sym, ap, ap₂, ◌∙◌}
use mathlib.Core.Bool.{Bool, true, false, cond, ◌&&◌}
use mathlib.Core.List.{List, [], ◌∷◌}
use Prim.Native.Nat.{ℕ, zero, suc, ◌+◌, ◌≤◌, ◌<◌}
use native.Mathlib.Decide.{dec_lt}
use native.Mathlib.Omega.{arith}
use borrow.Author.Tests.{lt-ltb, le-ltb, eq-eqb, ne_eqb}
use lib.Pointwise.{pointwise}
use Rattle.std.specs.Ordering.{is_lt, nat_cmp, ordering_then}
use Rattle.std.specs.Cmp.Lexicographic.{slice_cmp}
use lib.Bits.{bit_or, or_add_and, and_le_r}
use lib.ListN.{length, get_or, drop, drop_of_length-le}
use lib.Dec.{eqb, ltb}
use Rattle.octets.specs.Strings.{all_zero, same, before}
use Rattle.octets.proofs.Parts.{drop_next}

pub zero_step : (s : List ℕ) (i : ℕ) → i < length s → all_zero (drop i s) ≡ (eqb (get_or s i 0) 0 && all_zero (drop (i + 1) s))
unfolding all_zero
zero_step s i h = ap all_zero (drop_next s i h)

-- a number holds the bits of both exactly where neither has any
pub neither : (a b : ℕ) → eqb (bit_or a b) 0 ≡ (eqb a 0 && eqb b 0)
neither zero b = refl
neither (suc a) b =
    let sum = or_add_and (suc a) b in
    let low = and_le_r (suc a) b in
    ne_eqb (bit_or (suc a) b) 0 (omega arith) ∙ sym (ap (λ (p : Bool). p && eqb b 0) (ne_eqb (suc a) 0 (omega arith)))

pub zero_end : (s : List ℕ) (i : ℕ) → length s ≤ i → all_zero (drop i s) ≡ true
unfolding all_zero
zero_end s i h = ap all_zero (drop_of_length-le s h)

module _ (a b : List ℕ) (i : ℕ) where
  pub same_step :
      i < length a → i < length b
      → same (drop i a) (drop i b) ≡ (eqb (get_or a i 0) (get_or b i 0) && same (drop (i + 1) a) (drop (i + 1) b))
  unfolding same
  same_step h k = ap₂ same (drop_next a i h) (drop_next b i k)

  pub same_end : length a ≤ i → length b ≤ i → same (drop i a) (drop i b) ≡ true
  unfolding same
  same_end h k = ap₂ same (drop_of_length-le a h) (drop_of_length-le b k)

  pub before_step :
      i < length a → i < length b
      → before (drop i a) (drop i b)
      ≡ cond (eqb (get_or a i 0) (get_or b i 0)) (before (drop (i + 1) a) (drop (i + 1) b)) (ltb (get_or a i 0) (get_or b i 0))
  unfolding before
  before_step h k = ap₂ before (drop_next a i h) (drop_next b i k)

  pub before_over : i < length a → length b ≤ i → before (drop i a) (drop i b) ≡ false
  unfolding before
  before_over h k = ap₂ before (drop_next a i h) (drop_of_length-le b k)

  pub before_at_end : length a ≤ i → before (drop i a) (drop i b) ≡ ltb i (length b)
  unfolding before
  before_at_end h = go (dec_lt i (length b))
    where
      go : Dec (i < length b) → before (drop i a) (drop i b) ≡ ltb i (length b)
      go (yes k) = ap₂ before (drop_of_length-le a h) (drop_next b i k) ∙ sym (lt-ltb i (length b) k)
      go (no k) =
          let le : length b ≤ i = omega arith in
          ap₂ before (drop_of_length-le a h) (drop_of_length-le b le) ∙ sym (le-ltb i (length b) le)

-- strings of different lengths are not the same
pub same_lengths : (a b : List ℕ) → (length a ≡ length b → ⊥) → same a b ≡ false
unfolding same
same_lengths [] [] h = absurd (h refl)
same_lengths [] (y ∷ b) h = refl
same_lengths (x ∷ a) [] h = refl
same_lengths (x ∷ a) (y ∷ b) h = both (eqb x y) (same_lengths a b (λ e. h (ap suc e)))
  where
    both : (p : Bool) {q : Bool} → q ≡ false → (p && q) ≡ false
    both true e = e
    both false e = refl

-- as the library says it of two slices
pub same_pointwise : (a b : List ℕ) → pointwise eqb a b ≡ same a b
unfolding same
same_pointwise [] [] = refl
same_pointwise [] (y ∷ b) = refl
same_pointwise (x ∷ a) [] = refl
same_pointwise (x ∷ a) (y ∷ b) = ap (λ (p : Bool). eqb x y && p) (same_pointwise a b)

pub before_cmp : (a b : List ℕ) → is_lt (slice_cmp nat_cmp a b) ≡ before a b
unfolding before
before_cmp [] [] = refl
before_cmp [] (y ∷ b) = refl
before_cmp (x ∷ a) [] = refl
before_cmp (x ∷ a) (y ∷ b) = go (before_cmp a b) (dec_lt x y) (dec_lt y x)
  where
    go :
        is_lt (slice_cmp nat_cmp a b) ≡ before a b → Dec (x < y) → Dec (y < x)
        → is_lt (ordering_then (nat_cmp x y) (slice_cmp nat_cmp a b)) ≡ cond (eqb x y) (before a b) (ltb x y)
    go e (yes h) k = rw (lt-ltb x y h, ne_eqb x y (λ e. omega arith))
    go e (no h) (yes k) = rw (le-ltb x y (omega arith), ne_eqb x y (λ e. omega arith))
    go e (no h) (no k) = rw (le-ltb x y (omega arith), eq-eqb x y (omega arith)) e
