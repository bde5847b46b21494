-- The byte order of strings: none comes before itself, nor before zeros, and it is transitive. Assumes nothing.
use mathlib.Core.Path.{◌≡◌, refl, sym, ap, ◌∙◌}
use mathlib.Core.Bool.{Bool, true, false, cond}
use mathlib.Core.List.{List, [], ◌∷◌}
use Prim.Native.Nat.{ℕ, ◌<◌}
use native.Mathlib.Omega.{arith}
use borrow.Author.Tests.{eqb-true, ltb-true, eq-eqb, ne_eqb, lt-ltb, le-ltb}
use lib.ListN.{length}
use lib.Dec.{eqb, ltb}
use Rattle.octets.specs.Strings.{all_zero, same, before}
use Rattle.octets.proofs.RoundTrips.{and_left, and_right, same_is}

pub before_self : (a : List ℕ) → before a a ≡ false
unfolding before
before_self [] = refl
before_self (x ∷ a) = rw (eq-eqb x x refl) (before_self a)

-- a string that comes before another is not the same
pub before_other : (a b : List ℕ) → before a b ≡ true → same a b ≡ false
before_other a b e = go (same a b) refl
  where
    go : (p : Bool) → same a b ≡ p → same a b ≡ false
    go false q = q
    go true q =
        let z : ◌≡◌ {A = Bool} false true = sym (before_self b) ∙ sym (ap (λ (s : List ℕ). before s b) (same_is a b q)) ∙ e in
        cc

-- two bytes decide by the smaller one, or leave it to what comes after them
less_first : (x y : ℕ) (r : Bool) → x < y → cond (eqb x y) r (ltb x y) ≡ true
less_first x y r h = rw (ne_eqb x y (λ e. omega arith), lt-ltb x y h)

same_first : (x y : ℕ) (r : Bool) → x ≡ y → r ≡ true → cond (eqb x y) r (ltb x y) ≡ true
same_first x y r e h = rw (eq-eqb x y e) h

first_told :
    {P : Type 0} (x y : ℕ) (r : Bool) → cond (eqb x y) r (ltb x y) ≡ true → (x < y → P) → (x ≡ y → r ≡ true → P) → P
first_told {P} x y r e less equal = go (eqb x y) refl e
  where
    go : (b : Bool) → eqb x y ≡ b → cond b r (ltb x y) ≡ true → P
    go true p q = equal (eqb-true x y p) q
    go false p q = less (ltb-true x y q)

pub before_trans : (a b c : List ℕ) → before a b ≡ true → before b c ≡ true → before a c ≡ true
unfolding before
before_trans [] [] c p q = let z : ◌≡◌ {A = Bool} false true = p in cc
before_trans [] (y ∷ b) [] p q = q
before_trans [] (y ∷ b) (z ∷ c) p q = refl
before_trans (x ∷ a) [] c p q = let z : ◌≡◌ {A = Bool} false true = p in cc
before_trans (x ∷ a) (y ∷ b) [] p q = q
before_trans (x ∷ a) (y ∷ b) (z ∷ c) p q =
    first_told x y (before a b) p
    (λ h. first_told y z (before b c) q (λ k. less_first x z (before a c) (omega arith)) (λ e k. less_first x z (before a c) (omega arith)))
    (λ e h. first_told y z (before b c) q
    (λ k. less_first x z (before a c) (omega arith))
    (λ f k. same_first x z (before a c) (e ∙ f) (before_trans a b c h k)))

-- nothing comes before zeros of its length
pub before_zeros : (a z : List ℕ) → length a ≡ length z → all_zero z ≡ true → before a z ≡ false
unfolding before all_zero
before_zeros [] [] l e = refl
before_zeros [] (y ∷ z) l e = absurd (omega arith)
before_zeros (x ∷ a) [] l e = refl
before_zeros (x ∷ a) (y ∷ z) l e =
    let zero : y ≡ 0 = eqb-true y 0 (and_left (eqb y 0) (all_zero z) e) in
    rw (before_zeros a z (omega arith) (and_right (eqb y 0) (all_zero z) e), le-ltb x y (omega arith)) (either (eqb x y))
  where
    either : (p : Bool) → cond p false false ≡ false
    either true = refl
    either false = refl
