-- Laws of the rolls that are left of a bundle: the next is that of the entry with the number of those given. Assumes nothing.
use mathlib.Core.Path.{◌≡◌, refl, sym, ap, ◌∙◌}
use mathlib.Core.List.{List, [], ◌∷◌}
use Prim.Native.Nat.{ℕ, zero, suc, ◌+◌, ◌-◌, ◌<◌, ◌≤◌}
use native.Mathlib.Numerals.{add-one}
use native.Mathlib.Omega.{arith}
use lib.ListN.{length, get_or, drop}
use mathlib.Core.Bool.{Bool, ◌&&◌}
use Rattle.std.specs.List.{list_all, range_with_len}
use Rattle.rows.specs.Table.{each}
use Rattle.rows.proofs.Tables.{each_listed}
use Rattle.rules.specs.Bundle.{old_count, old_roll}
use Rattle.bundle.specs.Rolls.{rolls_from, all_rolls}

-- the rolls that are left where the first i were given
abbrev pub rest_of : List ℕ → ℕ → List (List ℕ)
rest_of s i = rolls_from s i (old_count s - i)

-- what a call of `next` gave, and left
pub record Given_next (s : List ℕ) (i : ℕ) (roll : List ℕ) (left : List (List ℕ)) : Type 0 where
  pub below : i < old_count s
  pub roll_is : roll ≡ old_roll s i
  pub left_is : left ≡ rest_of s (i + 1)

first : {x y : List ℕ} {xs ys : List (List ℕ)} → x ∷ xs ≡ y ∷ ys → (x ≡ y) × (xs ≡ ys)
first {x} {y} {xs} {ys} e = (ap (λ (l : List (List ℕ)). get_or l 0 []) e, ap (λ (l : List (List ℕ)). drop 1 l) e)

pub start : (s : List ℕ) → all_rolls s ≡ rest_of s 0
start s = let n : old_count s ≡ old_count s - 0 = omega arith in ap (rolls_from s 0) n

pub given : (s : List ℕ) (i : ℕ) (roll : List ℕ) (left : List (List ℕ)) → rest_of s i ≡ roll ∷ left → Given_next s i roll left
unfolding rolls_from
given s i roll left e = go (old_count s - i) refl e
  where
    go : (n : ℕ) → old_count s - i ≡ n → rolls_from s i n ≡ roll ∷ left → Given_next s i roll left
    go zero p q = let z : ◌≡◌ {A = ℕ} 0 (suc (length left)) = ap length q in absurd (omega arith)
    go (suc n) p q =
        let parts = first q in
        let next : old_count s - (i + 1) ≡ n = omega (arith, p) in
        record { below = omega (arith, p); roll_is = sym parts.0; left_is = sym parts.1 ∙ rw (next, add-one i) }

pub ended : (s : List ℕ) (i : ℕ) → i ≤ old_count s → rest_of s i ≡ [] → i ≡ old_count s
unfolding rolls_from
ended s i h e = go (old_count s - i) refl e
  where
    go : (n : ℕ) → old_count s - i ≡ n → rolls_from s i n ≡ [] → i ≡ old_count s
    go zero p q = omega (arith, p)
    go (suc n) p q = let z : ◌≡◌ {A = ℕ} (suc (length (rolls_from s (suc i) n))) 0 = ap length q in absurd (omega arith)

-- a test of all rolls is asked of each entry's
module _ (test : List ℕ → Bool) (s : List ℕ) where
  listed : (i n : ℕ) → list_all test (rolls_from s i n) ≡ list_all (λ (k : ℕ). test (old_roll s k)) (range_with_len i n)
  unfolding rolls_from
  listed i zero = refl
  listed i (suc n) = rw (add-one i) (ap (λ (p : Bool). test (old_roll s i) && p) (listed (suc i) n))

  pub all_tested : list_all test (all_rolls s) ≡ each (λ (k : ℕ). test (old_roll s k)) (old_count s)
  all_tested = listed 0 (old_count s) ∙ each_listed (λ (k : ℕ). test (old_roll s k)) (old_count s)
