-- Laws of a list of entries: by the lowest position that may come next, one entry more, one that does not fit, what a list has that does, and two lists that
-- agree. Assumes nothing.
use mathlib.Core.Path.{◌≡◌, refl, sym, ap, ap₂}
use mathlib.Core.Bool.{true, false, ◌&&◌, and-false}
use Prim.Native.Nat.{ℕ, zero, suc, ◌+◌, ◌<◌, ◌≤◌}
use native.Mathlib.Decide.{dec_lt}
use native.Mathlib.Nat.{not-suc-le-zero}
use native.Mathlib.Numerals.{add-one}
use native.Mathlib.Omega.{arith}
use borrow.Author.Tests.{ltb-true, le-leb}
use lib.Dec.{ltb, leb}
use Rattle.octets.proofs.RoundTrips.{and_left, and_right}
use Rattle.marks.specs.{marks_fit}
use Rattle.marks.specs.Entries.{goes_up, entry_fits, entries_fit}

-- the lowest position that comes after those of the entries before entry i
unfoldable pub lowest : (ℕ → ℕ) → ℕ → ℕ
lowest position zero = 0
lowest position (suc i) = position i + 1

pub lowest_next : (position : ℕ → ℕ) (i : ℕ) → lowest position (i + 1) ≡ position i + 1
unfolding lowest
lowest_next position i = rw (add-one i)

goes_by_lowest : (position : ℕ → ℕ) (i : ℕ) → goes_up position i ≡ leb (lowest position i) (position i)
unfolding goes_up lowest
goes_by_lowest position zero = sym (le-leb 0 (position 0) (omega arith))
goes_by_lowest position (suc i) = rw (add-one (position i))

module _ (n : ℕ) (position marks : ℕ → ℕ) where
  pub entry_by_lowest :
      (i low : ℕ) → low ≡ lowest position i → entry_fits n position marks i ≡ (ltb (position i) n && leb low (position i) && marks_fit (marks i))
  unfolding entry_fits
  entry_by_lowest i low e = rw (e, goes_by_lowest position i)

  pub one_more : (i : ℕ) → entries_fit n position marks i ≡ true → entry_fits n position marks i ≡ true → entries_fit n position marks (i + 1) ≡ true
  unfolding entries_fit
  one_more i h k = rw (add-one i, h) k

  -- one entry that does not fit decides
  pub one_fails : (c i : ℕ) → i < c → entry_fits n position marks i ≡ false → entries_fit n position marks c ≡ false
  unfolding entries_fit
  one_fails zero i h k = absurd (not-suc-le-zero h)
  one_fails (suc c) i h k = go (λ l. one_fails c i l k) (dec_lt i c)
    where
      go : (i < c → entries_fit n position marks c ≡ false) → Dec (i < c) → (entries_fit n position marks c && entry_fits n position marks c) ≡ false
      go earlier (yes l) = rw (earlier l)
      go earlier (no g) =
          let e : i ≡ c = omega arith in
          let f : entry_fits n position marks c ≡ false = rw e at k in rw f (and-false (entries_fit n position marks c))

  -- each entry of a list that fits
  pub fits_each : (c i : ℕ) → i < c → entries_fit n position marks c ≡ true → entry_fits n position marks i ≡ true
  unfolding entries_fit
  fits_each zero i h k = absurd (not-suc-le-zero h)
  fits_each (suc c) i h k = go (λ l. fits_each c i l (and_left (entries_fit n position marks c) (entry_fits n position marks c) k)) (dec_lt i c)
    where
      go : (i < c → entry_fits n position marks i ≡ true) → Dec (i < c) → entry_fits n position marks i ≡ true
      go earlier (yes l) = earlier l
      go earlier (no g) =
          let e : c ≡ i = omega arith in rw e at (and_right (entries_fit n position marks c) (entry_fits n position marks c) k)

  module _ (c : ℕ) (fit : entries_fit n position marks c ≡ true) where
    entry_parts : (i : ℕ) → i < c → ((ltb (position i) n && goes_up position i) ≡ true) × (marks_fit (marks i) ≡ true)
    unfolding entry_fits
    entry_parts i h =
        let e = fits_each c i h fit in
        (and_left (ltb (position i) n && goes_up position i) (marks_fit (marks i)) e, and_right (ltb (position i) n && goes_up position i) (marks_fit (marks i)) e)

    pub in_rack : (i : ℕ) → i < c → position i < n
    in_rack i h = ltb-true (position i) n (and_left (ltb (position i) n) (goes_up position i) (entry_parts i h).0)

    pub marks_of : (i : ℕ) → i < c → marks_fit (marks i) ≡ true
    marks_of i h = (entry_parts i h).1

    pub next_higher : (i : ℕ) → suc i < c → position i < position (suc i)
    unfolding goes_up
    next_higher i h = ltb-true (position i) (position (suc i)) (and_right (ltb (position (suc i)) n) (goes_up position (suc i)) (entry_parts (suc i) h).0)

    -- positions strictly rise
    pub later_higher : (i j : ℕ) → i < j → j < c → position i < position j
    later_higher i zero h k = absurd (not-suc-le-zero h)
    later_higher i (suc j) h k = go (λ l. later_higher i j l (omega arith)) (dec_lt i j)
      where
        go : (i < j → position i < position j) → Dec (i < j) → position i < position (suc j)
        go earlier (yes l) = omega (arith, earlier l, next_higher j k)
        go earlier (no g) = let e : i ≡ j = omega arith in rw e (next_higher j k)

    not_below : (i : ℕ) → i < c → i ≤ position i
    not_below zero h = omega arith
    not_below (suc i) h = omega (arith, not_below i (omega arith), next_higher i h)

  -- so there are no more entries than keys
  pub no_more_than : (c : ℕ) → entries_fit n position marks c ≡ true → c ≤ n
  no_more_than zero fit = omega arith
  no_more_than (suc c) fit = omega (arith, not_below (suc c) fit c (omega arith), in_rack (suc c) fit c (omega arith))

-- lists that agree in their first c entries
up_alike : (p q : ℕ → ℕ) (c i : ℕ) → ((j : ℕ) → j < c → p j ≡ q j) → i < c → goes_up p i ≡ goes_up q i
unfolding goes_up
up_alike p q c zero e h = refl
up_alike p q c (suc i) e h = ap₂ ltb (e i (omega arith)) (e (suc i) h)

pub entries_alike :
    (n : ℕ) (p q m l : ℕ → ℕ) (c : ℕ) → ((i : ℕ) → i < c → p i ≡ q i) → ((i : ℕ) → i < c → m i ≡ l i) → entries_fit n p m c ≡ entries_fit n q l c
unfolding entries_fit entry_fits
entries_alike n p q m l zero e f = refl
entries_alike n p q m l (suc c) e f =
    ap₂ ◌&&◌ (entries_alike n p q m l c (λ i h. e i (omega arith)) (λ i h. f i (omega arith)))
    (ap₂ ◌&&◌ (ap₂ ◌&&◌ (ap (λ (x : ℕ). ltb x n) (e c (omega arith))) (up_alike p q (suc c) c e (omega arith))) (ap marks_fit (f c (omega arith))))
