-- Laws of a table: a test of each row in turn, and the order of the labels. Assumes nothing.
use mathlib.Core.Path.{◌≡◌, refl, sym, ◌∙◌}
use mathlib.Core.Bool.{Bool, true, false, ◌&&◌, and-true, and_assoc}
use mathlib.Core.List.{List}
use Prim.Native.Nat.{ℕ, zero, suc, ◌+◌, ◌-◌, ◌*◌, ◌<◌, ◌≤◌}
use native.Mathlib.Decide.{dec_lt}
use native.Mathlib.Nat.{add-zero, not-suc-le-zero}
use native.Mathlib.Numerals.{add-one}
use native.Mathlib.Omega.{arith}
use borrow.Author.Tests.{eq-eqb, le-leb, eqb-true, leb-true}
use lib.ListN.{length, take, drop, length-drop}
use lib.Seq.{take_all}
use lib.Dec.{eqb, leb}
use Rattle.std.specs.List.{list_all, range_with_len}
use Rattle.octets.specs.Strings.{before, all_zero}
use Rattle.octets.proofs.RoundTrips.{and_left, and_right}
use Rattle.rows.specs.Sizes.{most_rows, table_bytes, row_bytes}
use Rattle.rows.specs.Row.{label_of}
use Rattle.rows.specs.Table.{each, rises, stands, rows_fit}

pub and_false : (p : Bool) {q : Bool} → q ≡ false → (p && q) ≡ false
and_false true e = e
and_false false e = refl

module _ (test : ℕ → Bool) where
  pub each_next : (i : ℕ) → each test i ≡ true → test i ≡ true → each test (i + 1) ≡ true
  unfolding each
  each_next i h k = rw (add-one i, h) k

  -- one number that fails decides
  pub each_fails : (n i : ℕ) → i < n → test i ≡ false → each test n ≡ false
  unfolding each
  each_fails zero i h k = absurd (not-suc-le-zero h)
  each_fails (suc n) i h k = go (λ l. each_fails n i l k) (dec_lt i n)
    where
      go : (i < n → each test n ≡ false) → Dec (i < n) → (each test n && test n) ≡ false
      go earlier (yes l) = rw (earlier l)
      go earlier (no g) = let e : i ≡ n = omega arith in and_false (each test n) (rw e at k)

  -- what holds of each number below n holds of one
  pub each_of : (n i : ℕ) → i < n → each test n ≡ true → test i ≡ true
  each_of n i h e = go (test i) refl
    where
      go : (b : Bool) → test i ≡ b → test i ≡ true
      go true p = p
      go false p = let z : ◌≡◌ {A = Bool} true false = sym e ∙ each_fails n i h p in cc

  -- the same, said of a list of numbers
  each_from : (a n : ℕ) → each test (a + n) ≡ (each test a && list_all test (range_with_len a n))
  unfolding each
  each_from a zero = rw (add-zero a) (sym (and-true (each test a)))
  each_from a (suc n) =
      let e : a + suc n ≡ suc a + n = omega arith in
      rw (e, each_from (suc a) n, add-one a) (and_assoc (each test a) (test a) (list_all test (range_with_len (suc a) n)))

  pub each_listed : (n : ℕ) → list_all test (range_with_len 0 n) ≡ each test n
  unfolding each
  each_listed n = let e : 0 + n ≡ n = omega arith in rw e at (sym (each_from 0 n))

pub rises_after : (rows : List ℕ) (i : ℕ) → (i ≡ 0 → ⊥) → before (label_of rows (i - 1)) (label_of rows i) ≡ rises rows i
unfolding rises
rises_after rows zero n = absurd (n refl)
rises_after rows (suc i) n = let e : suc i - 1 ≡ i = omega arith in rw e

module _ (count : ℕ) (rows : List ℕ) where
  module _ (table : length rows ≡ table_bytes) where
    module _ (few : count ≤ most_rows) where
      pub one_does_not_stand : each (stands rows) count ≡ false → rows_fit count rows ≡ false
      unfolding rows_fit
      one_does_not_stand h = rw (eq-eqb (length rows) table_bytes table, le-leb count most_rows few, h)

      -- where each row stands, the places after them decide
      pub all_do_stand : each (stands rows) count ≡ true → rows_fit count rows ≡ all_zero (drop (row_bytes * count) rows)
      unfolding rows_fit
      all_do_stand h = rw (eq-eqb (length rows) table_bytes table, le-leb count most_rows few, h)

-- what is left of a string from a place on, cut at the string's end
pub rest_part : (l : List ℕ) (at : ℕ) → take (length l - at) (drop at l) ≡ drop at l
rest_part l at = take_all (length l - at) (drop at l) (omega (arith, length-drop at l))

-- what a table whose first rows form a roll has: its length, a count of a roll, rows that stand, and zeros after them
module _ (count : ℕ) (rows : List ℕ) (fit : rows_fit count rows ≡ true) where
  long : Bool
  long = eqb (length rows) table_bytes

  few : Bool
  few = leb count most_rows

  stand : Bool
  stand = each (stands rows) count

  ended : Bool
  ended = all_zero (drop (row_bytes * count) rows)

  pub fit_length : length rows ≡ table_bytes
  unfolding rows_fit long few stand ended
  fit_length = eqb-true (length rows) table_bytes (and_left long few (and_left (long && few) stand (and_left (long && few && stand) ended fit)))

  pub fit_count : count ≤ most_rows
  unfolding rows_fit long few stand ended
  fit_count = leb-true count most_rows (and_right long few (and_left (long && few) stand (and_left (long && few && stand) ended fit)))

  pub fit-stands : each (stands rows) count ≡ true
  unfolding rows_fit long few stand ended
  fit-stands = and_right (long && few) stand (and_left (long && few && stand) ended fit)

  pub fit_rest : all_zero (drop (row_bytes * count) rows) ≡ true
  unfolding rows_fit long few stand ended
  fit_rest = and_right (long && few && stand) ended fit
