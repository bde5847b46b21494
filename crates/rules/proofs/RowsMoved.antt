-- Laws of a table with one row moved on: that row, the others, the search, and that it still is a table of a roll. Assumes nothing.
use mathlib.Core.Path.{◌≡◌, refl, ap, ap₂, ◌∙◌}
use mathlib.Core.Bool.{true}
use mathlib.Core.List.{List, ◌++◌}
use Prim.Native.Nat.{ℕ, zero, suc, min, ◌+◌, ◌*◌, ◌/◌, ◌≤◌, ◌<◌, ◌^◌}
use native.Mathlib.Decide.{dec_lt}
use native.Mathlib.Omega.{arith}
use borrow.Author.Tests.{eq-eqb, le-leb}
use lib.ListN.{length, take, drop, length-append}
use lib.Seq.{take_at, drop_at, take_all}
use Rattle.octets.specs.Numbers.{number_of, bytes_of}
use Rattle.octets.specs.Strings.{before, all_zero}
use Rattle.octets.proofs.Numbers.{bytes_length}
use Rattle.octets.proofs.Exact.{number_bytes}
use Rattle.octets.proofs.RoundTrips.{and_right}
use Rattle.rows.specs.Sizes.{label_bytes, tail_bytes, height_bytes, row_bytes, most_rows, table_bytes}
use Rattle.rows.specs.Row.{label_of, tail_of, height_of, row_holds, row_fits}
use Rattle.rows.specs.Table.{rises, stands, rows_fit}
use Rattle.rows.specs.Search.{held, first_of, find}
use Rattle.rows.proofs.Tables.{each_of, fit_length, fit_count, fit-stands, fit_rest}
use Rattle.rules.specs.Table.{moved}
use Rattle.rules.proofs.Somes.{each_all}
use Rattle.rules.proofs.FoundRows.{first_same, stands_row}
use Rattle.rules.proofs.TablesChanged.{moved_length}
use Rattle.rules.proofs.RowsParts.{put_before, put_inside, put_behind, put_dropped, put_over, row_at, same_label, same_tail, same_height}

module _ (rows : List ℕ) (i : ℕ) (tail : List ℕ) (height : ℕ) (within : row_bytes * i + row_bytes ≤ length rows) (sized : length tail ≡ tail_bytes) where
  abbrev new_bytes : List ℕ
  new_bytes = tail ++ bytes_of height_bytes height

  new_long : length new_bytes ≡ tail_bytes + height_bytes
  new_long = length-append tail (bytes_of height_bytes height) ∙ omega (arith, bytes_length height_bytes height)

  at_most : row_bytes * i + label_bytes ≤ length rows
  at_most = omega arith

  pub row_before : (m : ℕ) → m < i → row_at (moved rows i tail height) m ≡ row_at rows m
  unfolding moved row_at
  row_before m h = put_before rows (row_bytes * i + label_bytes) new_bytes at_most (row_bytes * m) row_bytes (omega arith)

  pub row_behind : (m : ℕ) → i < m → row_at (moved rows i tail height) m ≡ row_at rows m
  unfolding moved row_at
  row_behind m h = put_behind rows (row_bytes * i + label_bytes) new_bytes at_most (row_bytes * m) row_bytes (omega (arith, new_long))

  label_here : label_of (moved rows i tail height) i ≡ label_of rows i
  unfolding moved label_of
  label_here = put_before rows (row_bytes * i + label_bytes) new_bytes at_most (row_bytes * i) label_bytes (omega arith)

  -- every label stays
  pub label_stays : (m : ℕ) → label_of (moved rows i tail height) m ≡ label_of rows m
  label_stays m = go (dec_lt m i) (dec_lt i m)
    where
      go : Dec (m < i) → Dec (i < m) → label_of (moved rows i tail height) m ≡ label_of rows m
      go (yes l) d = same_label (moved rows i tail height) rows m m (row_before m l)
      go (no l) (yes g) = same_label (moved rows i tail height) rows m m (row_behind m g)
      go (no l) (no g) = let e : m ≡ i = omega arith in rw e label_here

  pub tail-moved : tail_of (moved rows i tail height) i ≡ tail
  unfolding moved tail_of
  tail-moved =
      put_inside rows (row_bytes * i + label_bytes) new_bytes at_most (row_bytes * i + label_bytes) 0 tail_bytes (omega arith) (omega (arith, new_long))
      ∙ take_at tail (bytes_of height_bytes height) tail_bytes sized

  pub height-moved : height < 256 ^ height_bytes → height_of (moved rows i tail height) i ≡ height
  unfolding moved height_of
  height-moved h =
      ap number_of
      (put_inside rows (row_bytes * i + label_bytes) new_bytes at_most (row_bytes * i + label_bytes + tail_bytes) tail_bytes height_bytes (omega arith) (omega (arith, new_long))
      ∙ ap (take height_bytes) (drop_at tail (bytes_of height_bytes height) tail_bytes sized)
      ∙ take_all height_bytes (bytes_of height_bytes height) (omega (arith, bytes_length height_bytes height)))
      ∙ number_bytes height_bytes height h

  pub find_stays : (count : ℕ) (label : List ℕ) → find count (moved rows i tail height) label ≡ find count rows label
  unfolding held find
  find_stays count label =
      ap (λ (n : ℕ). first_of (min count (min most_rows (n / row_bytes))) (moved rows i tail height) label) (moved_length rows i tail height sized within)
      ∙ first_same (moved rows i tail height) rows label (held count rows) (λ j h. label_stays j)

  -- where the row may stand at its new tail and height, the first rows still form a roll
  module _ (small : height < 256 ^ height_bytes) (holds : row_holds (label_of rows i) tail height ≡ true) (count : ℕ) (fit : rows_fit count rows ≡ true) (place : i < count) where
    abbrev after : List ℕ
    after = moved rows i tail height

    stood : (m : ℕ) → m < count → stands rows m ≡ true
    stood m h = each_of (stands rows) count m h (fit-stands count rows fit)

    row_stays : (m : ℕ) → m < count → row_fits after m ≡ true
    unfolding row_fits
    row_stays m h = go (dec_lt m i) (dec_lt i m)
      where
        other : row_at after m ≡ row_at rows m → row_holds (label_of after m) (tail_of after m) (height_of after m) ≡ true
        other e = rw (same_label after rows m m e, same_tail after rows m m e, same_height after rows m m e) (stands_row rows m (stood m h))

        go : Dec (m < i) → Dec (i < m) → row_holds (label_of after m) (tail_of after m) (height_of after m) ≡ true
        go (yes l) d = other (row_before m l)
        go (no l) (yes g) = other (row_behind m g)
        go (no l) (no g) = let e : m ≡ i = omega arith in rw (e, label_stays i, tail-moved, height-moved small) holds

    rises_still : (m : ℕ) → rises after m ≡ rises rows m
    unfolding rises
    rises_still zero = refl
    rises_still (suc m) = ap₂ before (label_stays m) (label_stays (suc m))

    stands_still : (m : ℕ) → m < count → stands after m ≡ true
    unfolding stands
    stands_still m h = rw (row_stays m h) (rises_still m ∙ and_right (row_fits rows m) (rises rows m) (stood m h))

    rest_stays : drop (row_bytes * count) after ≡ drop (row_bytes * count) rows
    unfolding moved
    rest_stays = put_dropped rows (row_bytes * i + label_bytes) new_bytes at_most (row_bytes * count) (omega (arith, new_long))

    pub moved_fits : rows_fit count after ≡ true
    unfolding rows_fit
    moved_fits =
        rw (
          eq-eqb (length after) table_bytes (moved_length rows i tail height sized within ∙ fit_length count rows fit),
          le-leb count most_rows (fit_count count rows fit),
          each_all (stands after) count stands_still,
        )
        (ap all_zero rest_stays ∙ fit_rest count rows fit)

-- a row moved on twice is at its last tail and height
pub moved_over :
    (rows : List ℕ) (i : ℕ) (t u : List ℕ) (x y : ℕ) → row_bytes * i + row_bytes ≤ length rows → length t ≡ tail_bytes → length u ≡ tail_bytes
    → moved (moved rows i t x) i u y ≡ moved rows i u y
unfolding moved
moved_over rows i t u x y h l m =
    put_over rows (row_bytes * i + label_bytes) (t ++ bytes_of height_bytes x) (omega arith) (u ++ bytes_of height_bytes y)
    (omega (arith, length-append t (bytes_of height_bytes x), length-append u (bytes_of height_bytes y), bytes_length height_bytes x, bytes_length height_bytes y))
