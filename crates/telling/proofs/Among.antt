-- Laws of labels in a list: which are among them, where their lines stand, and one line moved. Assumes nothing.
use mathlib.Core.Path.{◌≡◌, refl, sym, ap, ap₂, ◌∙◌}
use mathlib.Core.Bool.{Bool, true, false, not, cond, ◌&&◌, ◌||◌}
use mathlib.Core.List.{List, [], ◌∷◌, ◌++◌, map}
use Prim.Native.Nat.{ℕ, suc, ◌<◌}
use native.Mathlib.Omega.{arith}
use borrow.Author.Tests.{not-true}
use lib.ListN.{length, get_or, set}
use Rattle.octets.specs.Strings.{same}
use Rattle.octets.proofs.RoundTrips.{and_left, and_right, same_is, same_refl}
use Rattle.rack.specs.Racks.{is_among}
use Rattle.desk.specs.declared.Finding.{Finding}
use Rattle.night.specs.declared.Line.{Line}
use Rattle.night.specs.Lines.{no_line, place, line_after}

pub never : {A : Type 0} → ◌≡◌ {A = Bool} true false → A
never e = let w : ◌≡◌ {A = ℕ} 0 1 = cc in absurd (omega arith)

pub or_left : (p q : Bool) → (p || q) ≡ false → p ≡ false
or_left true q h = h
or_left false q h = refl

pub or_right : (p q : Bool) → (p || q) ≡ false → q ≡ false
or_right true q h = never h
or_right false q h = h

pub same_not : (a b : List ℕ) → same a b ≡ false → same b a ≡ false
same_not a b e = go (same b a) refl
  where
    go : (t : Bool) → same b a ≡ t → same b a ≡ false
    go false h = h
    go true h = let p : b ≡ a = same_is b a h in let q : same a b ≡ true = rw p (same_refl a) in never (sym q ∙ e)

pub among_more : (l : List ℕ) (ks : List (List ℕ)) (k : List ℕ) → is_among l (ks ++ (k ∷ [])) ≡ (is_among l ks || same k l)
unfolding is_among
among_more l [] k = go (same k l)
  where
    go : (t : Bool) → (t || false) ≡ (false || t)
    go true = refl
    go false = refl
among_more l (x ∷ ks) k = rw (among_more l ks k) (go (same x l) (is_among l ks) (same k l))
  where
    go : (p q r : Bool) → (p || (q || r)) ≡ ((p || q) || r)
    go true q r = refl
    go false q r = refl

pub among_last : (l : List ℕ) (ks : List (List ℕ)) → is_among l (ks ++ (l ∷ [])) ≡ true
among_last l ks = rw (among_more l ks l, same_refl l) (go (is_among l ks))
  where
    go : (p : Bool) → (p || true) ≡ true
    go true = refl
    go false = refl

pub distinct : List (List ℕ) → Bool
distinct [] = true
distinct (k ∷ ks) = not (is_among k ks) && distinct ks

pub distinct_none : distinct [] ≡ true
unfolding distinct
distinct_none = refl

pub distinct_more : (ks : List (List ℕ)) (l : List ℕ) → distinct ks ≡ true → is_among l ks ≡ false → distinct (ks ++ (l ∷ [])) ≡ true
unfolding distinct is_among
distinct_more [] l d n = refl
distinct_more (k ∷ ks) l d n =
    let a : is_among k ks ≡ false = not-true (is_among k ks) (and_left (not (is_among k ks)) (distinct ks) d) in
    let b : same l k ≡ false = same_not k l (or_left (same k l) (is_among l ks) n) in
    let c : is_among k (ks ++ (l ∷ [])) ≡ false = rw (among_more k ks l, a, b) in
    rw (c, distinct_more ks l (and_right (not (is_among k ks)) (distinct ks) d) (or_right (same k l) (is_among l ks) n))

module _ (g : List ℕ → Line) (named : (k : List ℕ) → (g k).label ≡ k) (l : List ℕ) where
  pub found_place : (ks : List (List ℕ)) → is_among l ks ≡ true → place l (map g ks) < length ks
  unfolding is_among place
  found_place [] h = never (sym h)
  found_place (k ∷ ks) h = rw (named k) (go (λ x. found_place ks x) (same k l) h)
    where
      go :
          (is_among l ks ≡ true → place l (map g ks) < length ks) → (t : Bool) → (t || is_among l ks) ≡ true
          → cond t 0 (suc (place l (map g ks))) < suc (length ks)
      go further true h = omega arith
      go further false h = omega (arith, further h)

  pub no_place : (ks : List (List ℕ)) → is_among l ks ≡ false → place l (map g ks) ≡ length ks
  unfolding is_among place
  no_place [] h = refl
  no_place (k ∷ ks) h = rw (named k, or_left (same k l) (is_among l ks) h, no_place ks (or_right (same k l) (is_among l ks) h))

module _ (g h : List ℕ → Line) (l : List ℕ) (other : (k : List ℕ) → same k l ≡ false → h k ≡ g k) where
  -- lines of other labels stay
  pub others_stay : (ks : List (List ℕ)) → is_among l ks ≡ false → map g ks ≡ map h ks
  unfolding is_among
  others_stay [] n = refl
  others_stay (k ∷ ks) n =
      ap₂ (λ (x : Line) (xs : List Line). x ∷ xs) (sym (other k (or_left (same k l) (is_among l ks) n))) (others_stay ks (or_right (same k l) (is_among l ks) n))

  -- the label's own line moves
  pub one_moves :
      (f : Finding) → ((k : List ℕ) → (g k).label ≡ k) → ((k : List ℕ) → same k l ≡ true → h k ≡ line_after (g k) f)
      → (ks : List (List ℕ)) → distinct ks ≡ true → is_among l ks ≡ true
      → set (map g ks) (place l (map g ks)) (line_after (get_or (map g ks) (place l (map g ks)) no_line) f) ≡ map h ks
  unfolding is_among place distinct
  one_moves f named own [] d a = never (sym a)
  one_moves f named own (k ∷ ks) d a =
      let s : same (g k).label l ≡ same k l = ap (λ (x : List ℕ). same x l) (named k) in
      go (λ x. one_moves f named own ks (and_right (not (is_among k ks)) (distinct ks) d) x) (same (g k).label l) (sym s) (ap (λ (t : Bool). t || is_among l ks) s ∙ a)
    where
      go :
          (is_among l ks ≡ true → set (map g ks) (place l (map g ks)) (line_after (get_or (map g ks) (place l (map g ks)) no_line) f) ≡ map h ks)
          → (t : Bool) → same k l ≡ t → (t || is_among l ks) ≡ true
          → set (g k ∷ map g ks) (cond t 0 (suc (place l (map g ks)))) (line_after (get_or (g k ∷ map g ks) (cond t 0 (suc (place l (map g ks)))) no_line) f)
          ≡ h k ∷ map h ks
      go further true e a =
          let q : k ≡ l = same_is k l e in
          let n : is_among k ks ≡ false = not-true (is_among k ks) (and_left (not (is_among k ks)) (distinct ks) d) in
          ap₂ (λ (x : Line) (xs : List Line). x ∷ xs) (sym (own k e)) (others_stay ks (rw q at n))
      go further false e a = ap₂ (λ (x : Line) (xs : List Line). x ∷ xs) (sym (other k e)) (further a)
