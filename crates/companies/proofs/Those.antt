-- Laws of those elements of a list for which a test holds. Assumes nothing.
use mathlib.Core.Path.{◌≡◌, refl, ap}
use mathlib.Core.Bool.{Bool, true, false, cond}
use mathlib.Core.List.{List, [], ◌∷◌, ◌++◌, map}
use Rattle.companies.specs.Runs.{those}

module _ {A : Type 0} (test : A → Bool) where
  pub those_with : (x : A) (l : List A) → test x ≡ true → those test (x ∷ l) ≡ x ∷ those test l
  unfolding those
  those_with x l e = rw e

  pub those_without : (x : A) (l : List A) → test x ≡ false → those test (x ∷ l) ≡ those test l
  unfolding those
  those_without x l e = rw e

  joined : (b : Bool) (x : A) (l r m : List A) → r ≡ l ++ m → cond b (x ∷ r) r ≡ cond b (x ∷ l) l ++ m
  joined true x l r m e = ap (λ (s : List A). x ∷ s) e
  joined false x l r m e = e

  pub those_append : (l m : List A) → those test (l ++ m) ≡ those test l ++ those test m
  unfolding those
  those_append [] m = refl
  those_append (x ∷ l) m = joined (test x) x (those test l) (those test (l ++ m)) (those test m) (those_append l m)

  -- of one element or none
  pub those_all : (b : Bool) (x : A) → test x ≡ true → those test (cond b (x ∷ []) []) ≡ cond b (x ∷ []) []
  unfolding those
  those_all true x e = rw e
  those_all false x e = refl

  pub those_none : (b : Bool) (x : A) → test x ≡ false → those test (cond b (x ∷ []) []) ≡ []
  unfolding those
  those_none true x e = rw e
  those_none false x e = refl

pub map_append : {A B : Type 0} (f : A → B) (l m : List A) → map f (l ++ m) ≡ map f l ++ map f m
map_append f [] m = refl
map_append {B = B} f (x ∷ l) m = ap (λ (s : List B). f x ∷ s) (map_append f l m)
