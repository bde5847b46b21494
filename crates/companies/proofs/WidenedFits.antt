-- A table with a row more, in its place, is a table of a roll again. Assumes nothing.
use mathlib.Core.Path.{◌≡◌, refl, sym, ap, ap₂, ◌∙◌}
use mathlib.Core.Bool.{true, false}
use mathlib.Core.List.{List, ◌++◌}
use Prim.Native.Nat.{ℕ, zero, suc, ◌+◌, ◌-◌, ◌*◌, ◌≤◌, ◌<◌}
use native.Mathlib.Decide.{dec_lt}
use native.Mathlib.Omega.{arith}
use borrow.Author.Tests.{eq-eqb, le-leb}
use lib.ListN.{length, take, drop, take-append-drop, length-append, length-replicate}
use lib.Seq.{drop-drop, drop-append-add, length-take-le}
use Rattle.octets.specs.Strings.{before, all_zero}
use Rattle.octets.proofs.Parts.{drop-take}
use Rattle.octets.proofs.Zeros.{zero_append}
use Rattle.octets.proofs.RoundTrips.{and_left}
use Rattle.rows.specs.Sizes.{label_bytes, row_bytes, most_rows, table_bytes}
use Rattle.rows.specs.Row.{label_of, tail_of, height_of, row_holds, row_fits}
use Rattle.rows.specs.Table.{rises, stands, rows_fit}
use Rattle.rows.specs.Search.{Parts}
use Rattle.rows.proofs.InOrder.{in_order}
use Rattle.rows.proofs.Tables.{each_of, fit_length, fit-stands, fit_rest}
use Rattle.statement.specs.Cut.{no_digest}
use Rattle.rules.specs.Table.{new_row, widened}
use Rattle.rules.proofs.Somes.{each_all}
use Rattle.rules.proofs.FoundRows.{stands_row}
use Rattle.rules.proofs.TablesChanged.{widened-length}
use Rattle.rules.proofs.RowsParts.{row_at, same_label, same_tail, same_height}
use Rattle.safety.proofs.RowsWidened as widens
use Rattle.companies.proofs.Orders.{before_either}

-- the front of zeros is zeros
zero_front : (n : ℕ) (s : List ℕ) → all_zero s ≡ true → all_zero (take n s) ≡ true
zero_front n s e = and_left (all_zero (take n s)) (all_zero (drop n s)) (sym (zero_append (take n s) (drop n s)) ∙ ap all_zero (take-append-drop n s) ∙ e)

-- where a number stands to a place: before it, at it, or behind
pub data Side (i m : ℕ) : Type 0 where
  in_front : m < i → Side i m
  at_place : m ≡ i → Side i m
  behind : (p : ℕ) → m ≡ suc p → i ≤ p → Side i m

pub side : (i m : ℕ) → Side i m
side i m = go (dec_lt m i) (dec_lt i m)
  where
    go : Dec (m < i) → Dec (i < m) → Side i m
    go (yes l) d = in_front l
    go (no l) (yes g) = behind (m - 1) (omega arith) (omega arith)
    go (no l) (no g) = at_place (omega arith)

module _ (count : ℕ) (rows label : List ℕ) (i : ℕ) (fit : rows_fit count rows ≡ true) (room : count < most_rows) (place : Parts count rows label i)
    (sized : length label ≡ label_bytes) where
  abbrev wide : List ℕ
  wide = widened rows i label

  within : row_bytes * i + row_bytes ≤ length rows
  within = omega (arith, fit_length count rows fit, place.within)

  pub row_front : (m : ℕ) → m < i → row_at wide m ≡ row_at rows m
  row_front = widens.row_before rows label i within sized

  pub row_new : row_at wide i ≡ new_row label
  row_new = widens.row_here rows label i within sized

  pub label_new : label_of wide i ≡ label
  label_new = widens.label_new rows label i within sized

  pub row_back : (m : ℕ) → i ≤ m → m < count → row_at wide (suc m) ≡ row_at rows m
  row_back m h l = widens.row_behind rows label i within sized m h (omega (arith, fit_length count rows fit))

  label_front : (m : ℕ) → m < i → label_of wide m ≡ label_of rows m
  label_front m h = same_label wide rows m m (row_front m h)

  label_back : (m : ℕ) → i ≤ m → m < count → label_of wide (suc m) ≡ label_of rows m
  label_back m h l = same_label wide rows (suc m) m (row_back m h l)

  module _ (named : all_zero label ≡ false) (absent : (m : ℕ) → m < count → label_of rows m ≡ label → ⊥) where
    new_holds : row_holds label no_digest 0 ≡ true
    unfolding row_holds all_zero
    new_holds = rw named

    stood : (m : ℕ) → m < count → row_holds (label_of rows m) (tail_of rows m) (height_of rows m) ≡ true
    stood m h = stands_row rows m (each_of (stands rows) count m h (fit-stands count rows fit))

    moved_holds : (m n : ℕ) → n < count → row_at wide m ≡ row_at rows n → row_holds (label_of wide m) (tail_of wide m) (height_of wide m) ≡ true
    moved_holds m n h e = rw (same_label wide rows m n e, same_tail wide rows m n e, same_height wide rows m n e) (stood n h)

    holds : (m : ℕ) → m < suc count → Side i m → row_holds (label_of wide m) (tail_of wide m) (height_of wide m) ≡ true
    holds m h (in_front l) = moved_holds m m (omega (arith, place.within)) (row_front m l)
    holds m h (at_place e) =
        rw (e, label_new, widens.tail_new rows label i within sized, widens.height_new rows label i within sized) new_holds
    holds m h (behind p e l) = moved_holds m p (omega arith) (ap (row_at wide) e ∙ row_back p l (omega arith))

    -- each label is before the next
    follows : (m : ℕ) → suc m < suc count → Side i m → Side i (suc m) → before (label_of wide m) (label_of wide (suc m)) ≡ true
    follows m h s (in_front l) =
        ap₂ before (label_front m (omega arith)) (label_front (suc m) l) ∙ in_order count rows fit m (suc m) (omega arith) (omega (arith, place.within))
    follows m h s (at_place e) =
        ap₂ before (label_front m (omega arith)) (ap (label_of wide) e ∙ label_new) ∙ place.below m (omega arith)
    follows m h (in_front g) (behind p e l) = absurd (omega arith)
    follows m h (at_place g) (behind p e l) =
        let q : p ≡ i = omega arith in
        ap₂ before (ap (label_of wide) g ∙ label_new) (ap (label_of wide) e ∙ label_back p l (omega arith) ∙ ap (label_of rows) q)
        ∙ before_either (label_of rows i) label (place.from i (omega arith) (omega arith)) (absent i (omega arith))
    follows m h (behind o f g) (behind p e l) =
        let q : p ≡ suc o = omega arith in
        ap₂ before (ap (label_of wide) f ∙ label_back o g (omega arith)) (ap (label_of wide) e ∙ label_back p l (omega arith) ∙ ap (label_of rows) q)
        ∙ in_order count rows fit o (suc o) (omega arith) (omega arith)

    rises_there : (m : ℕ) → m < suc count → rises wide m ≡ true
    unfolding rises
    rises_there zero h = refl
    rises_there (suc m) h = follows m h (side i m) (side i (suc m))

    stands_there : (m : ℕ) → m < count + 1 → stands wide m ≡ true
    unfolding stands row_fits
    stands_there m h = rw (holds m (omega arith) (side i m)) (rises_there m (omega arith))

    -- behind its rows are the zeros that were there, but for the last place
    abbrev front : List ℕ
    front = take (row_bytes * i) rows ++ new_row label

    front_long : length front ≡ row_bytes * i + row_bytes
    front_long =
        let l = length-take-le (row_bytes * i) rows (omega (arith, within)) in
        simp (length-append, length-replicate) (omega arith)

    rest : all_zero (drop (row_bytes * (count + 1)) wide) ≡ true
    unfolding widened
    rest =
        let at : ℕ = row_bytes * (count + 1) in
        let over : ℕ = row_bytes * count - row_bytes * i in
        let whole : length rows ≡ at + (length rows - at) = omega (arith, fit_length count rows fit) in
        let ends : at ≡ length front + over = omega (arith, front_long, place.within) in
        let again : row_bytes * i + over ≡ row_bytes * count = omega (arith, place.within) in
        ap (λ (n : ℕ). all_zero (drop at (take n (front ++ drop (row_bytes * i) rows)))) whole
        ∙ ap all_zero (drop-take at (length rows - at) (front ++ drop (row_bytes * i) rows))
        ∙ zero_front (length rows - at) (drop at (front ++ drop (row_bytes * i) rows))
        (ap (λ (n : ℕ). all_zero (drop n (front ++ drop (row_bytes * i) rows))) ends
        ∙ ap all_zero
        (drop-append-add front (drop (row_bytes * i) rows) over ∙ drop-drop over (row_bytes * i) rows ∙ ap (λ (n : ℕ). drop n rows) again)
        ∙ fit_rest count rows fit)

    pub widened_fits : rows_fit (count + 1) wide ≡ true
    unfolding rows_fit
    widened_fits =
        rw (
          eq-eqb (length wide) table_bytes (widened-length rows i label ∙ fit_length count rows fit),
          le-leb (count + 1) most_rows (omega arith),
          each_all (stands wide) (count + 1) stands_there,
        ) rest
