-- Parts of a list: cut out of it, and read or stored element by element. Assumes nothing.
use mathlib.Core.Path.{◌≡◌, refl, sym, ap}
use mathlib.Core.List.{List, [], ◌∷◌, ◌++◌}
use Prim.Native.Nat.{ℕ, zero, suc, ◌+◌, ◌≤◌, ◌<◌}
use native.Mathlib.Nat.{zero-add, suc-add, add_assoc, not-suc-le-zero, le_of_suc-le-suc}
use native.Mathlib.Omega.{arith}
use native.Mathlib.Numerals.{add-one, add-two, add-three}
use lib.ListN.{length, get_or, take, drop, set, replicate}
use lib.Seq.{drop-cons, sets-eq, take-nil}

-- a part of n elements from i on, cut at its end first
pub drop-take : (i n : ℕ) (l : List ℕ) → drop i (take (i + n) l) ≡ take n (drop i l)
drop-take zero n l = ap (λ (k : ℕ). take k l) (zero-add n)
drop-take (suc i) n [] = rw (suc-add i n) (sym (take-nil n))
drop-take (suc i) n (x ∷ l) = rw (suc-add i n) (drop-take i n l)

-- the first of many equal elements
pub take-replicate : (n m : ℕ) (a : ℕ) → n ≤ m → take n (replicate m a) ≡ replicate n a
take-replicate zero m a h = refl
take-replicate (suc n) zero a h = absurd (not-suc-le-zero h)
take-replicate (suc n) (suc m) a h = ap (λ (l : List ℕ). a ∷ l) (take-replicate n m a (le_of_suc-le-suc h))

pub drop-replicate : (n m : ℕ) (a : ℕ) → drop n (replicate (n + m) a) ≡ replicate m a
drop-replicate zero m a = ap (λ (k : ℕ). replicate k a) (zero-add m)
drop-replicate (suc n) m a = rw (suc-add n m) (drop-replicate n m a)

-- what is left from i on begins with element i
pub drop_next : (l : List ℕ) (i : ℕ) → i < length l → drop i l ≡ get_or l i 0 ∷ drop (i + 1) l
drop_next l i h = rw (add-one i) (drop-cons l i 0 h)

-- a part begins with the element at its place
pub part_cons : (l : List ℕ) (i n : ℕ) → i < length l → take (suc n) (drop i l) ≡ get_or l i 0 ∷ take n (drop (i + 1) l)
part_cons l i n h = rw (add-one i, drop-cons l i 0)

-- four reads in a row are a part of four
pub four_read :
    (l : List ℕ) (i : ℕ) → i + 4 ≤ length l
    → take 4 (drop i l) ≡ get_or l i 0 ∷ get_or l (i + 1) 0 ∷ get_or l (i + 2) 0 ∷ get_or l (i + 3) 0 ∷ []
four_read l i h =
    rw (part_cons l i 3 (omega arith), part_cons l (i + 1) 2 (omega arith), add_assoc i 1 1, part_cons l (i + 2) 1 (omega arith), add_assoc i 2 1, part_cons l (i + 3) 0 (omega arith))

-- four stores in a row put four elements in place
pub four_stores :
    (l : List ℕ) (i a b c d : ℕ) → i + 4 ≤ length l
    → set (set (set (set l i a) (i + 1) b) (i + 2) c) (i + 3) d ≡ take i l ++ (a ∷ b ∷ c ∷ d ∷ []) ++ drop (i + 4) l
four_stores l i a b c d h = rw (add-one i, add-two i, add-three i) (sets-eq (a ∷ b ∷ c ∷ d ∷ []) l i h)
