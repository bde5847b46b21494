-- The round trip, for every layout: what is written reads back as the same contents, and what reading accepts is written again as the same string.
-- A layout owes one fact: contents that fit are cut out of what they are written as. Assumes nothing.
use mathlib.Core.Path.{◌≡◌, refl, ap₂}
use mathlib.Core.Bool.{Bool, true, false, cond, ◌&&◌}
use mathlib.Core.Option.{none, some}
use mathlib.Core.List.{List, [], ◌∷◌}
use Prim.Native.Nat.{ℕ}
use native.Mathlib.Omega.{arith}
use borrow.Author.Tests.{eqb-true, eq-eqb}
use lib.Dec.{eqb}
use Rattle.octets.specs.Strings.{same}
use Rattle.octets.specs.Layouts.{Layout, holds, read}

-- both parts of a test that holds
pub and_left : (p q : Bool) → (p && q) ≡ true → p ≡ true
and_left true q h = refl
and_left false q h = h

pub and_right : (p q : Bool) → (p && q) ≡ true → q ≡ true
and_right true q h = h
and_right false q h = let z : ◌≡◌ {A = Bool} false true = h in cc

pub same_is : (a b : List ℕ) → same a b ≡ true → a ≡ b
unfolding same
same_is [] [] h = refl
same_is [] (y ∷ b) h = cc
same_is (x ∷ a) [] h = cc
same_is (x ∷ a) (y ∷ b) h =
    ap₂ (λ (z : ℕ) (l : List ℕ). z ∷ l) (eqb-true x y (and_left (eqb x y) (same a b) h)) (same_is a b (and_right (eqb x y) (same a b) h))

pub same_refl : (a : List ℕ) → same a a ≡ true
unfolding same
same_refl [] = refl
same_refl (x ∷ a) = rw (eq-eqb x x refl) (same_refl a)

module _ {C : Type 0} (L : Layout C) where
  -- what is written reads back as the same contents
  pub written_reads : (v : C) → L.fits v ≡ true → L.cut (L.written v) ≡ v → read L (L.written v) ≡ some v
  unfolding holds read
  written_reads v f e = rw (e, f, same_refl (L.written v))

  -- where the layout holds, the contents fit and are written as the string itself
  pub holds_fits : (s : List ℕ) → holds L s ≡ true → L.fits (L.cut s) ≡ true
  unfolding holds
  holds_fits s h = and_left (L.fits (L.cut s)) (same (L.written (L.cut s)) s) h

  pub holds-written : (s : List ℕ) → holds L s ≡ true → L.written (L.cut s) ≡ s
  unfolding holds
  holds-written s h = same_is (L.written (L.cut s)) s (and_right (L.fits (L.cut s)) (same (L.written (L.cut s)) s) h)

  -- what reading accepts is written again as the same string, and fits
  pub read_writes : (s : List ℕ) (v : C) → read L s ≡ some v → (L.written v ≡ s) × (L.fits v ≡ true)
  unfolding read
  read_writes s v e = go (holds L s) refl e
    where
      go : (b : Bool) → holds L s ≡ b → cond b (some (L.cut s)) none ≡ some v → (L.written v ≡ s) × (L.fits v ≡ true)
      go true h e = let w : L.cut s ≡ v = cc in (rw w at (holds-written s h), rw w at (holds_fits s h))
      go false h e = let z : ◌≡◌ {A = ℕ} 0 1 = cc in absurd (omega arith)
