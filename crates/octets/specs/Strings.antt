-- Strings of bytes put into others, compared and cut. 01, "Layouts": "strictly rising in byte order", "not all zero".
use Rattle.std.specs.Prelude.{Bool, true, false, cond, ◌&&◌, List, [], ◌∷◌, ◌++◌, ℕ, zero, suc, ◌+◌, length, take, drop, eqb, ltb}

-- a string with another in it, from a place on
unfoldable pub put : List ℕ → ℕ → List ℕ → List ℕ
put d at s = take at d ++ s ++ drop (at + length s) d

-- all zero
unfoldable pub all_zero : List ℕ → Bool
all_zero [] = true
all_zero (b ∷ bs) = eqb b 0 && all_zero bs

-- the same string
unfoldable pub same : List ℕ → List ℕ → Bool
same [] [] = true
same [] (y ∷ ys) = false
same (x ∷ xs) [] = false
same (x ∷ xs) (y ∷ ys) = eqb x y && same xs ys

-- before it in byte order: by the first byte in which they differ, and a string comes before a longer one that it begins
unfoldable pub before : List ℕ → List ℕ → Bool
before [] [] = false
before [] (y ∷ ys) = true
before (x ∷ xs) [] = false
before (x ∷ xs) (y ∷ ys) = cond (eqb x y) (before xs ys) (ltb x y)

-- n pieces of k bytes each, from the front of a string
unfoldable pub pieces : ℕ → ℕ → List ℕ → List (List ℕ)
pieces k zero s = []
pieces k (suc n) s = take k s ∷ pieces k n (drop k s)

-- each before the next
unfoldable pub rising : List (List ℕ) → Bool
rising [] = true
rising (x ∷ []) = true
rising (x ∷ y ∷ l) = before x y && rising (y ∷ l)
