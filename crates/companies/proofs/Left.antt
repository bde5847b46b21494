-- What an accepted call on a label leaves: a sound record, the rows of the label's company with that row moved on or added, the other company's as they were.
-- Assumes nothing.
use mathlib.Core.Path.{◌≡◌, refl, ap, ◌∙◌}
use mathlib.Core.Bool.{Bool, true, false, cond}
use mathlib.Core.List.{List, map}
use Prim.Native.Nat.{ℕ, ◌+◌, ◌-◌, ◌≤◌, ◌<◌}
use native.Mathlib.Omega.{arith}
use lib.ListN.{length, length-map}
use Rattle.rows.specs.Sizes.{label_bytes, tail_bytes, top_height}
use Rattle.rows.specs.Row.{label_of, row_holds}
use Rattle.rows.specs.Table.{rows_fit}
use Rattle.rows.specs.Search.{Parts}
use Rattle.rows.proofs.Searches.{found_is, absent_is}
use Rattle.rules.specs.Record.{sound}
use Rattle.rules.specs.Outcomes.{Lent}
use Rattle.rules.specs.Table.{moved, widened}
use Rattle.rules.specs.Rows.{present_tail, present_height}
use Rattle.rules.specs.Companies.{belongs}
use Rattle.rules.specs.New.{one_more}
use Rattle.rules.proofs.Firsts.{sound_rows, sound_again}
use Rattle.rules.proofs.FoundRows.{row_labelled, row_next}
use Rattle.rules.proofs.Noted.{row_of, Rowed, Makeable}
use Rattle.rules.proofs.RowsMoved.{moved_fits}
use Rattle.safety.specs.Calls.{Keeper}
use Rattle.companies.specs.Runs.{rows_of}
use Rattle.companies.proofs.Places.{parts_of}
use Rattle.companies.proofs.WidenedFits.{widened_fits}
use Rattle.companies.proofs.CompanyMoved.{turned, moved_own, moved_other}
use Rattle.companies.proofs.CompanyWidened as widens
use Rattle.companies.proofs.CompanyWidened.{entered}

-- a row moved on
module _ (k : Lent) (label tail : List ℕ) (height : ℕ) (sounds : sound k.head k.table ≡ true) (has : Rowed k label) (sized : length tail ≡ tail_bytes)
    (some : 1 ≤ height) (low : height ≤ top_height) where
  abbrev count : ℕ
  count = k.head.count

  abbrev table_then : List ℕ
  table_then = moved k.table (row_of k label) tail height

  fit : rows_fit count k.table ≡ true
  fit = sound_rows k.head k.table sounds

  here : (row_of k label < count) × (label_of k.table (row_of k label) ≡ label)
  here = found_is count k.table label (row_of k label) fit has.found

  holds : row_holds (label_of k.table (row_of k label)) tail height ≡ true
  holds =
      let e : height ≡ height - 1 + 1 = omega arith in
      rw (here.1, e) (row_next label tail (height - 1) (row_labelled label (present_tail k label) (present_height k label) has.holds) (omega arith))

  pub moved_sound : sound k.head table_then ≡ true
  moved_sound =
      sound_again k.head k.table table_then sounds
      (moved_fits k.table (row_of k label) tail height has.within sized (omega arith) holds count fit here.0)

  module _ (first : Bool) where
    pub moved_ours : belongs label first ≡ true → rows_of first count table_then ≡ map (turned label tail height) (rows_of first count k.table)
    moved_ours own =
        moved_own count k.table (row_of k label) tail height fit here.0 has.within sized first
        (ap (λ (l : List ℕ). belongs l first) here.1 ∙ own) count (omega arith)
        ∙ ap (λ (l : List ℕ). map (turned l tail height) (rows_of first count k.table)) here.1

    pub moved_theirs : belongs label first ≡ false → rows_of first count table_then ≡ rows_of first count k.table
    moved_theirs other =
        moved_other count k.table (row_of k label) tail height fit here.0 has.within sized first
        (ap (λ (l : List ℕ). belongs l first) here.1 ∙ other) count

    pub moved_count : length (rows_of first count table_then) ≡ length (rows_of first count k.table)
    moved_count = go (belongs label first) refl
      where
        go : (b : Bool) → belongs label first ≡ b → length (rows_of first count table_then) ≡ length (rows_of first count k.table)
        go true e = ap length (moved_ours e) ∙ length-map (rows_of first count k.table) (turned label tail height)
        go false e = ap length (moved_theirs e)

-- New's place, and the record that an accepted New leaves
abbrev pub place : Lent → List ℕ → ℕ
place = row_of

abbrev pub wider : Lent → List ℕ → Keeper
wider k label = record { head = one_more k.head; table = widened k.table (place k label) label }

-- a row added
module _ (k : Lent) (label : List ℕ) (m : Makeable k label) (sized : length label ≡ label_bytes) where
  abbrev at : ℕ
  at = place k label

  abbrev wide : List ℕ
  wide = (wider k label).table

  -- it is where the label belongs
  placed : Parts k.head.count k.table label at
  placed = parts_of k.head.count k.table m.fit label at m.new

  pub widened_sound : sound (one_more k.head) wide ≡ true
  unfolding sound
  widened_sound =
      rw m.was
      (widened_fits k.head.count k.table label at m.fit m.few placed sized m.labelled
      (absent_is k.head.count k.table label at m.fit m.new).1)

  module _ (first : Bool) where
    pub widened_ours : belongs label first ≡ true → rows_of first (k.head.count + 1) wide ≡ entered label (rows_of first k.head.count k.table)
    widened_ours = widens.widened_own k.head.count k.table label at m.fit m.few placed sized first

    pub widened_theirs : belongs label first ≡ false → rows_of first (k.head.count + 1) wide ≡ rows_of first k.head.count k.table
    widened_theirs = widens.widened_other k.head.count k.table label at m.fit m.few placed sized first

    pub widened_counts :
        length (rows_of first (k.head.count + 1) wide) ≡ length (rows_of first k.head.count k.table) + cond (belongs label first) 1 0
    widened_counts = widens.widened_count k.head.count k.table label at m.fit m.few placed sized first
