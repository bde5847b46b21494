-- A function on every element of a list: a loop's turns, what `map` calls, and zeros. Assumes nothing.
use mathlib.Core.Path.{◌≡◌, refl, ap, ap₂, sym, ◌∙◌}
use mathlib.Core.List.{List, [], ◌∷◌, ◌++◌, map, map-append}
use Prim.Native.Nat.{ℕ, zero, suc, ◌+◌, ◌<◌}
use native.Mathlib.Numerals.{add-one}
use native.Mathlib.Omega.{arith}
use lib.ListN.{length, get_or, take, set, replicate, length-map, get_or-map}
use lib.Seq.{take-suc, take-suc-set}
use Rattle.std.proofs.lemmas.List.{ext_get_or}
use Rattle.std.specs.Array.{IsMapOf}
use Rattle.std.specs.Fn.{Mut, Called}

module _ {A B : Type 0} (f : A → B) where
  -- one element more is stored
  pub mapped_next :
      (xs : List A) (ys : List B) (i : ℕ) (d : A) (v : B) → i < length xs → i < length ys → take i ys ≡ map f (take i xs) → v ≡ f (get_or xs i d)
      → take (i + 1) (set ys i v) ≡ map f (take (i + 1) xs)
  mapped_next xs ys i d v h k e q =
      ap (λ (j : ℕ). take j (set ys i v)) (add-one i) ∙ take-suc-set ys i v k ∙ ap₂ (λ (l : List B) (x : B). l ++ (x ∷ [])) e q
      ∙ sym (ap (λ (j : ℕ). map f (take j xs)) (add-one i) ∙ ap (map f) (take-suc xs i d h) ∙ map-append f (take i xs) (get_or xs i d ∷ []))

-- a closure that answers a function's value gives that function on each element
pub mapped_by : {F A B : Type 0} (g : Mut F (A × Unit) B) (h : A → B) (d : A) (f : F) (xs : List A) (ys : List B) (n : ℕ) → n ≡ length xs
    → IsMapOf g f xs ys n → ((p q : F) (x : A) (y : B) → Called g p (x, tt) y q → y ≡ h x) → ys ≡ map h xs
mapped_by g h d f xs ys n e m gives =
    ext_get_or (h d) ys (map h xs) (m.long ∙ e ∙ sym (length-map xs h))
    (λ i w. let c = m.at i d (h d) (omega (arith, m.long)) in gives c.0 c.1 _ _ c.2 ∙ sym (get_or-map h xs i d))

pub mapped_same : {A B : Type 0} (f : A → B) (n : ℕ) (x : A) → map f (replicate n x) ≡ replicate n (f x)
mapped_same f zero x = refl
mapped_same f (suc n) x = ap (λ l. f x ∷ l) (mapped_same f n x)
