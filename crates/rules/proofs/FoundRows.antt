-- Laws of the row that a search finds: where it is, and that it keeps the rules of a row. Assumes nothing.
use mathlib.Core.Path.{◌≡◌, refl, ap₂}
use mathlib.Core.Bool.{true, false, not, cond, ◌&&◌}
use mathlib.Core.List.{List}
use Prim.Native.Nat.{ℕ, zero, suc, ◌+◌, ◌≤◌, ◌<◌}
use native.Mathlib.Omega.{arith}
use borrow.Author.Tests.{leb-true, le-leb, ne_eqb, not-true}
use lib.Dec.{eqb, leb}
use Rattle.octets.specs.Strings.{all_zero}
use Rattle.octets.proofs.RoundTrips.{and_left, and_right}
use Rattle.rows.specs.Sizes.{top_height}
use Rattle.rows.specs.Row.{label_of, tail_of, height_of, row_holds, row_fits}
use Rattle.rows.specs.Table.{rises, stands, rows_fit}
use Rattle.rows.specs.Search.{or_next, first_of, find}
use Rattle.std.specs.Prelude.{Result, Ok, Err}
use Rattle.rows.proofs.Tables.{each_of, fit-stands}
use Rattle.rows.proofs.Searches.{found_is}
use Rattle.rules.specs.Rows.{is_absent, row_number}

-- the search goes by the labels alone
pub first_same : (a b label : List ℕ) (n : ℕ) → ((j : ℕ) → j < n → label_of a j ≡ label_of b j) → first_of n a label ≡ first_of n b label
unfolding first_of
first_same a b label zero e = refl
first_same a b label (suc n) e =
    ap₂ (λ (f : Result ℕ ℕ) (l : List ℕ). or_next f n l label) (first_same a b label n (λ j h. e j (omega arith))) (e n (omega arith))

pub stands_row : (rows : List ℕ) (i : ℕ) → stands rows i ≡ true → row_holds (label_of rows i) (tail_of rows i) (height_of rows i) ≡ true
unfolding row_fits stands
stands_row rows i e = and_left (row_fits rows i) (rises rows i) e

-- the row that is found is one of the first, and keeps the rules of a row with its label
pub row_found :
    (count : ℕ) (rows label : List ℕ) → rows_fit count rows ≡ true → is_absent (find count rows label) ≡ false
    → (row_number (find count rows label) < count)
    × (row_holds label (tail_of rows (row_number (find count rows label))) (height_of rows (row_number (find count rows label))) ≡ true)
row_found count rows label fit there = go (find count rows label) refl there
  where
    go : (f : Result ℕ ℕ) → find count rows label ≡ f → is_absent f ≡ false
        → (row_number f < count) × (row_holds label (tail_of rows (row_number f)) (height_of rows (row_number f)) ≡ true)
    go (Ok i) p e =
        let r = found_is count rows label i fit p in
        (r.0, rw r.1 at (stands_row rows i (each_of (stands rows) count i r.0 (fit-stands count rows fit))))
    go (Err k) p e = let z : ◌≡◌ {A = ℕ} 0 1 = cc in absurd (omega arith)

module _ (label tail : List ℕ) (height : ℕ) where
  pub row_labelled : row_holds label tail height ≡ true → all_zero label ≡ false
  unfolding row_holds
  row_labelled e =
      not-true (all_zero label) (and_left (not (all_zero label)) (leb height top_height && cond (eqb height 0) (all_zero tail) true) e)

  pub row_below : row_holds label tail height ≡ true → height ≤ top_height
  unfolding row_holds
  row_below e =
      leb-true height top_height
      (and_left (leb height top_height) (cond (eqb height 0) (all_zero tail) true)
      (and_right (not (all_zero label)) (leb height top_height && cond (eqb height 0) (all_zero tail) true) e))

  -- a row below the top may move on, whatever its tail becomes
  pub row_next : all_zero label ≡ false → height < top_height → row_holds label tail (height + 1) ≡ true
  unfolding row_holds
  row_next e h = rw (e, le-leb (height + 1) top_height (omega arith), ne_eqb (height + 1) 0 (omega arith))
