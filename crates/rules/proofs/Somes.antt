-- Laws of a test that holds of some number, or of each, and of two tests that agree. Assumes nothing.
use mathlib.Core.Path.{◌≡◌, refl, ap₂}
use mathlib.Core.Bool.{Bool, true, false, ◌&&◌, ◌||◌}
use Prim.Native.Nat.{ℕ, zero, suc, ◌+◌, ◌<◌}
use native.Mathlib.Decide.{dec_lt}
use native.Mathlib.Nat.{not-suc-le-zero}
use native.Mathlib.Numerals.{add-one}
use native.Mathlib.Omega.{arith}
use Rattle.rows.specs.Table.{each}
use Rattle.rules.specs.Derivation.{some}

or_true : (p : Bool) {q : Bool} → q ≡ true → (p || q) ≡ true
or_true true e = refl
or_true false e = e

module _ (test : ℕ → Bool) where
  pub some_more : (n : ℕ) → some test (n + 1) ≡ (some test n || test n)
  unfolding some
  some_more n = rw (add-one n)

  -- one number for which it holds decides
  pub some_found : (n i : ℕ) → i < n → test i ≡ true → some test n ≡ true
  unfolding some
  some_found zero i h k = absurd (not-suc-le-zero h)
  some_found (suc n) i h k = go (λ l. some_found n i l k) (dec_lt i n)
    where
      go : (i < n → some test n ≡ true) → Dec (i < n) → (some test n || test n) ≡ true
      go earlier (yes l) = rw (earlier l)
      go earlier (no g) = let e : i ≡ n = omega arith in or_true (some test n) (rw e at k)

  pub some_none : (n : ℕ) → ((i : ℕ) → i < n → test i ≡ false) → some test n ≡ false
  unfolding some
  some_none zero h = refl
  some_none (suc n) h = rw (some_none n (λ i l. h i (omega arith))) (h n (omega arith))

  pub each_all : (n : ℕ) → ((i : ℕ) → i < n → test i ≡ true) → each test n ≡ true
  unfolding each
  each_all zero h = refl
  each_all (suc n) h = rw (each_all n (λ i l. h i (omega arith))) (h n (omega arith))

-- a number of which a test holds
pub record Witness (test : ℕ → Bool) (n : ℕ) : Type 0 where
  pub which : ℕ
  pub below : which < n
  pub holds : test which ≡ true

pub some_witness : (test : ℕ → Bool) (n : ℕ) → some test n ≡ true → Witness test n
unfolding some
some_witness test zero e = let z : ◌≡◌ {A = Bool} false true = e in let y : ◌≡◌ {A = ℕ} 0 1 = cc in absurd (omega arith)
some_witness test (suc n) e = go (some test n) refl (some_witness test n) e
  where
    go : (b : Bool) → some test n ≡ b → (some test n ≡ true → Witness test n) → (b || test n) ≡ true → Witness test (suc n)
    go true p earlier q = let w = earlier p in record { which = w.which; below = omega (arith, w.below); holds = w.holds }
    go false p earlier q = record { which = n; below = omega arith; holds = q }

-- two tests that agree on all numbers below n
pub each_same : (f g : ℕ → Bool) (n : ℕ) → ((i : ℕ) → i < n → f i ≡ g i) → each f n ≡ each g n
unfolding each
each_same f g zero h = refl
each_same f g (suc n) h = ap₂ (λ (p q : Bool). p && q) (each_same f g n (λ i l. h i (omega arith))) (h n (omega arith))
