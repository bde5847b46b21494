-- The byte order of strings: of two different ones, one comes before the other. Assumes nothing.
use mathlib.Core.Path.{◌≡◌, refl, sym, ap₂}
use mathlib.Core.Bool.{Bool, true, false, cond}
use mathlib.Core.List.{List, [], ◌∷◌}
use Prim.Native.Nat.{ℕ}
use native.Mathlib.Omega.{arith}
use borrow.Author.Tests.{eq-eqb, ne_eqb, eqb-true, eqb-false, ltb-false, lt-ltb}
use lib.Dec.{eqb, ltb}
use Rattle.octets.specs.Strings.{before}

pub never : {P : Type 0} → ◌≡◌ {A = Bool} false true → P
never e = let z : ◌≡◌ {A = ℕ} 0 1 = cc in absurd (omega arith)

pub before_either : (a b : List ℕ) → before a b ≡ false → (a ≡ b → ⊥) → before b a ≡ true
unfolding before
before_either [] [] e differs = absurd (differs refl)
before_either [] (y ∷ ys) e differs = sym e
before_either (x ∷ xs) [] e differs = refl
before_either (x ∷ xs) (y ∷ ys) e differs = go (eqb x y) refl e (before_either xs ys)
  where
    go : (b : Bool) → eqb x y ≡ b → cond b (before xs ys) (ltb x y) ≡ false → (before xs ys ≡ false → (xs ≡ ys → ⊥) → before ys xs ≡ true)
        → cond (eqb y x) (before ys xs) (ltb y x) ≡ true
    go true p e rest =
        let q : x ≡ y = eqb-true x y p in
        rw (eq-eqb y x (sym q)) (rest e (λ r. differs (ap₂ (λ (z : ℕ) (zs : List ℕ). z ∷ zs) q r)))
    go false p e rest =
        let q : (x ≡ y → ⊥) = eqb-false x y p in
        let r = ltb-false x y e in
        rw (ne_eqb y x (λ s. q (sym s))) (lt-ltb y x (omega arith))
