-- What a roll shows after a row is moved on or added: that row as it now stands, and the others as they stood. Assumes nothing.
use mathlib.Core.Path.{◌≡◌, sym, ap, ap₂, ◌∙◌}
use mathlib.Core.Bool.{true}
use mathlib.Core.List.{List}
use Prim.Native.Nat.{ℕ, zero, suc, ◌+◌, ◌*◌, ◌^◌, ◌≤◌, ◌<◌}
use native.Mathlib.Decide.{dec_lt}
use native.Mathlib.Omega.{arith}
use lib.ListN.{length}
use Rattle.std.specs.Prelude.{Ok, Err}
use Rattle.rows.specs.Sizes.{label_bytes, tail_bytes, height_bytes, row_bytes, most_rows}
use Rattle.rows.specs.Row.{label_of, tail_of, height_of}
use Rattle.rows.specs.Table.{rows_fit}
use Rattle.rows.specs.Search.{held, first_of, find}
use Rattle.rows.proofs.Tables.{fit_length}
use Rattle.rows.proofs.Searches.{held_all, none_is, found_is, absent_is}
use Rattle.roll.specs.Roll.{Roll}
use Rattle.statement.specs.Cut.{no_digest}
use Rattle.rules.specs.Table.{moved, widened}
use Rattle.rules.proofs.TablesChanged.{widened-length}
use Rattle.safety.proofs.Views.{standing, look, Reaches, Grows}
use Rattle.rules.proofs.RowsParts.{row_at, same_label, same_tail, same_height}
use Rattle.rules.proofs.RowsMoved as moves
use Rattle.safety.proofs.RowsWidened as widens
use Rattle.safety.proofs.Looks.{none_earlier, found_first, look_at, ShownAt, shown_at, stands_still}

-- a row that is found where it was, or elsewhere, and is as it was
as_before :
    (v w : Roll) (label : List ℕ) (height : ℕ) (tail : List ℕ) (i j : ℕ) → height_of v.rows i ≡ height → tail_of v.rows i ≡ tail
    → find w.count w.rows label ≡ Ok j → row_at w.rows j ≡ row_at v.rows i → Reaches w label height tail
as_before v w label height tail i j h t found e =
    stands_still w label height tail
    (look_at w label j found
    ∙ ap₂ standing (same_height w.rows v.rows j i e ∙ h) (same_tail w.rows v.rows j i e ∙ t))

module _ (count : ℕ) (rows : List ℕ) (i : ℕ) (tail : List ℕ) (height : ℕ) (within : row_bytes * i + row_bytes ≤ length rows) (sized : length tail ≡ tail_bytes) where
  abbrev before : Roll
  before = record { count = count; rows = rows }

  abbrev after : Roll
  after = record { count = count; rows = moved rows i tail height }

  finds : (label : List ℕ) → find count (moved rows i tail height) label ≡ find count rows label
  finds = moves.find_stays rows i tail height within sized count

  module _ (small : height < 256 ^ height_bytes) where
    pub moved_shows : (label : List ℕ) → find count rows label ≡ Ok i → look after label ≡ standing height tail
    moved_shows label e =
        look_at after label i (finds label ∙ e)
        ∙ ap₂ standing (moves.height-moved rows i tail height within sized small) (moves.tail-moved rows i tail height within sized)

    pub moved_grows : height_of rows i < height → Grows before after
    moved_grows higher = record { reaches = λ label h t e. let s = shown_at before label h t e in go label h t s (dec_lt s.row i) (dec_lt i s.row) }
      where
        go : (label : List ℕ) (h : ℕ) (t : List ℕ) (s : ShownAt before label h t) → Dec (s.row < i) → Dec (i < s.row) → Reaches after label h t
        go label h t s (yes l) d =
            as_before before after label h t s.row s.row s.height_is s.tail_is (finds label ∙ s.found) (moves.row_before rows i tail height within sized s.row l)
        go label h t s (no l) (yes g) =
            as_before before after label h t s.row s.row s.height_is s.tail_is (finds label ∙ s.found) (moves.row_behind rows i tail height within sized s.row g)
        go label h t s (no l) (no g) =
            let e : s.row ≡ i = omega arith in
            let p : height_of rows i ≡ h = ap (height_of rows) (sym e) ∙ s.height_is in
            record {
              top = height;
              last = tail;
              shows = moved_shows label (s.found ∙ ap Ok e);
              up = omega arith;
              agrees = λ x. absurd (omega arith);
            }

module _ (count : ℕ) (rows label : List ℕ) (i : ℕ) (fit : rows_fit count rows ≡ true) (room : count < most_rows) (sized : length label ≡ label_bytes)
    (new : find count rows label ≡ Err i) where
  place : i ≤ count
  place = (absent_is count rows label i fit new).0

  unknown : (m : ℕ) → m < count → label_of rows m ≡ label → ⊥
  unknown = (absent_is count rows label i fit new).1

  abbrev narrow : Roll
  narrow = record { count = count; rows = rows }

  abbrev wide : Roll
  wide = record { count = count + 1; rows = widened rows i label }

  within : row_bytes * i + row_bytes ≤ length rows
  within = omega (arith, place, fit_length count rows fit)

  wide_finds : (sought : List ℕ) (j : ℕ) → first_of (count + 1) (widened rows i label) sought ≡ Ok j → find (count + 1) (widened rows i label) sought ≡ Ok j
  unfolding find
  wide_finds sought j e =
      let l = widened-length rows i label in
      ap (λ (n : ℕ). first_of n (widened rows i label) sought) (held_all (count + 1) (widened rows i label) (omega arith) (omega (arith, fit_length count rows fit))) ∙ e

  label_before : (m : ℕ) → m < i → label_of (widened rows i label) m ≡ label_of rows m
  label_before m h = same_label (widened rows i label) rows m m (widens.row_before rows label i within sized m h)

  row_after : (m : ℕ) → i ≤ m → m < count → row_at (widened rows i label) (suc m) ≡ row_at rows m
  row_after m h l = widens.row_behind rows label i within sized m h (omega (arith, fit_length count rows fit))

  -- the new row
  pub widened_shows : look wide label ≡ standing 0 no_digest
  widened_shows =
      look_at wide label i
      (wide_finds label i
      (found_first (widened rows i label) label (count + 1) i (omega (arith, place))
      (λ m h e. unknown m (omega (arith, place)) (sym (label_before m h) ∙ e)) (widens.label_new rows label i within sized)))
      ∙ ap₂ standing (widens.height_new rows label i within sized) (widens.tail_new rows label i within sized)

  -- a row of another label stands at its old place or at the next
  module _ (other : List ℕ) (j : ℕ) (found : find count rows other ≡ Ok j) where
    earlier : (m : ℕ) → m < j → label_of rows m ≡ other → ⊥
    unfolding find
    earlier = (none_is rows other j _ (none_earlier rows other (held count rows) j found)).1

    differs : label ≡ other → ⊥
    differs e = let w = found_is count rows other j fit found in unknown j w.0 (w.1 ∙ sym e)

    stays_before : j < i → find (count + 1) (widened rows i label) other ≡ Ok j
    stays_before h =
        let w = found_is count rows other j fit found in
        wide_finds other j
        (found_first (widened rows i label) other (count + 1) j (omega (arith, w.0))
        (λ m l e. earlier m l (sym (label_before m (omega arith)) ∙ e)) (label_before j h ∙ w.1))

    never : i ≤ j → (m : ℕ) → m < suc j → Dec (m < i) → Dec (i < m) → label_of (widened rows i label) m ≡ other → ⊥
    never h m l (yes b) d e = earlier m (omega arith) (sym (label_before m b) ∙ e)
    never h m l (no b) (no d) e =
        let q : m ≡ i = omega arith in
        differs (sym (widens.label_new rows label i within sized) ∙ ap (label_of (widened rows i label)) (sym q) ∙ e)
    never h zero l (no b) (yes d) e = omega arith
    never h (suc m) l (no b) (yes d) e =
        let w = found_is count rows other j fit found in
        earlier m (omega arith) (sym (same_label (widened rows i label) rows (suc m) m (row_after m (omega arith) (omega (arith, w.0)))) ∙ e)

    goes_behind : i ≤ j → find (count + 1) (widened rows i label) other ≡ Ok (suc j)
    goes_behind h =
        let w = found_is count rows other j fit found in
        wide_finds other (suc j)
        (found_first (widened rows i label) other (count + 1) (suc j) (omega (arith, w.0))
        (λ m l e. never h m l (dec_lt m i) (dec_lt i m) e) (same_label (widened rows i label) rows (suc j) j (row_after j h w.0) ∙ w.1))

  pub widened_grows : Grows narrow wide
  widened_grows = record { reaches = λ other h t e. let s = shown_at narrow other h t e in go other h t s (dec_lt s.row i) }
    where
      go : (other : List ℕ) (h : ℕ) (t : List ℕ) (s : ShownAt narrow other h t) → Dec (s.row < i) → Reaches wide other h t
      go other h t s (yes l) =
          as_before narrow wide other h t s.row s.row s.height_is s.tail_is (stays_before other s.row s.found l) (widens.row_before rows label i within sized s.row l)
      go other h t s (no l) =
          let w = found_is count rows other s.row fit s.found in
          as_before narrow wide other h t s.row (suc s.row) s.height_is s.tail_is (goes_behind other s.row s.found (omega arith)) (row_after s.row (omega arith) w.0)
