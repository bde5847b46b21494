-- Laws of strings that are compared part by part and filled up with zeros. Assumes nothing.
use mathlib.Core.Path.{◌≡◌, refl, sym, ap, ap₂, ◌∙◌}
use mathlib.Core.Bool.{Bool, true, false, ◌&&◌}
use mathlib.Core.List.{List, [], ◌∷◌, ◌++◌, append-nil}
use Prim.Native.Nat.{ℕ, zero, suc, ◌+◌, ◌-◌, ◌≤◌}
use native.Mathlib.Nat.{add-zero}
use native.Mathlib.Omega.{arith}
use borrow.Author.Tests.{eqb-true}
use lib.ListN.{length, take, drop, replicate, length-append, length-take, length-drop, length-replicate, take-append-drop}
use lib.Seq.{take_at, drop-append-add, drop-drop}
use lib.Dec.{eqb}
use Rattle.octets.specs.Strings.{put, all_zero, same}
use Rattle.octets.proofs.Parts.{drop-replicate}
use Rattle.octets.proofs.RoundTrips.{and_left, and_right}
use Rattle.roll.specs.Roll.{filled}

and_assoc : (p q r : Bool) → (p && (q && r)) ≡ ((p && q) && r)
and_assoc true q r = refl
and_assoc false q r = refl

-- two strings in two parts each, the first parts of one length
pub same_append : (a b x y : List ℕ) → length a ≡ length b → same (a ++ x) (b ++ y) ≡ (same a b && same x y)
unfolding same
same_append [] [] x y e = refl
same_append [] (c ∷ b) x y e = absurd (omega arith)
same_append (c ∷ a) [] x y e = absurd (omega arith)
same_append (c ∷ a) (d ∷ b) x y e =
    ap (λ (t : Bool). eqb c d && t) (same_append a b x y (omega arith)) ∙ and_assoc (eqb c d) (same a b) (same x y)

-- a string of zeros
pub zeros_are : (l : List ℕ) → all_zero l ≡ true → l ≡ replicate (length l) 0
unfolding all_zero
zeros_are [] h = refl
zeros_are (x ∷ l) h =
    ap₂ (λ (y : ℕ) (k : List ℕ). y ∷ k) (eqb-true x 0 (and_left (eqb x 0) (all_zero l) h)) (zeros_are l (and_right (eqb x 0) (all_zero l) h))

pub zeros_later : (n : ℕ) (l : List ℕ) → all_zero l ≡ true → all_zero (drop n l) ≡ true
unfolding all_zero
zeros_later zero l h = h
zeros_later (suc n) [] h = h
zeros_later (suc n) (x ∷ l) h = zeros_later n l (and_right (eqb x 0) (all_zero l) h)

-- a string that is zero from a place on is its front, filled up
pub filled_front :
    (l : List ℕ) (k m n : ℕ) → k ≤ m → m ≤ length l → length l ≡ n → all_zero (drop k l) ≡ true → filled n (take m l) ≡ l
unfolding filled
filled_front l k m n h g e z =
    let later : all_zero (drop m l) ≡ true =
    let d : k + (m - k) ≡ m = omega arith in
    rw (drop-drop (m - k) k l, d) at (zeros_later (m - k) (drop k l) z) in
    let left : length (drop m l) ≡ n - length (take m l) = simp (length-drop, length-take) (omega arith) in
    ap (λ (r : List ℕ). take m l ++ r) (sym (rw left at (zeros_are (drop m l) later))) ∙ take-append-drop m l

pub filled-length : (n : ℕ) (g : List ℕ) → length g ≤ n → length (filled n g) ≡ n
unfolding filled
filled-length n g h = simp (length-append, length-replicate) (omega arith)

-- nothing put into a string
pub put_none : (d : List ℕ) (at : ℕ) → put d at [] ≡ d
unfolding put
put_none d at = ap₂ (λ (x : List ℕ) (k : ℕ). x ++ drop k d) (append-nil (take at d)) (add-zero at) ∙ take-append-drop at d

-- a string put behind what fills the front
pub put-filled :
    (n : ℕ) (g p : List ℕ) (at : ℕ) → at ≡ length g → length g + length p ≤ n → put (filled n g) at p ≡ filled n (g ++ p)
unfolding put filled
put-filled n g p at e h =
    let rest : n - length g ≡ length p + (n - length (g ++ p)) = omega (arith, length-append g p) in
    let front : take at (g ++ replicate (n - length g) 0) ≡ g = take_at g (replicate (n - length g) 0) at (sym e) in
    let zeros : drop {A = ℕ} (length p) (replicate (n - length g) 0) ≡ replicate (n - length (g ++ p)) 0 = rw rest (drop-replicate (length p) (n - length (g ++ p)) 0) in
    let back : drop (at + length p) (g ++ replicate (n - length g) 0) ≡ replicate (n - length (g ++ p)) 0 =
    rw e (drop-append-add g (replicate (n - length g) 0) (length p) ∙ zeros) in
    ap₂ (λ (x y : List ℕ). x ++ p ++ y) front back
