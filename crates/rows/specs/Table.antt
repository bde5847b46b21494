-- The table of rows: a roll's rows from the front, and zeros in the places after them. 01, "Roll": "0 to 63 rows, labels strictly rising"; "Keeper record":
-- "the first rows form a roll as above and the rest are zero".
use Rattle.std.specs.Prelude.{Bool, true, ◌&&◌, List, ℕ, zero, suc, ◌*◌, length, drop, eqb, leb}
use Rattle.octets.specs.Strings.{all_zero, before}
use Rattle.rows.specs.Sizes.{row_bytes, most_rows, table_bytes}
use Rattle.rows.specs.Row.{label_of, row_fits}

-- a test holds of each number below n
unfoldable pub each : (ℕ → Bool) → ℕ → Bool
each test zero = true
each test (suc n) = each test n && test n

-- the label of row i comes after the label of the row before it
unfoldable pub rises : List ℕ → ℕ → Bool
rises rows zero = true
rises rows (suc i) = before (label_of rows i) (label_of rows (suc i))

-- row i may stand where it stands
unfoldable pub stands : List ℕ → ℕ → Bool
stands rows i = row_fits rows i && rises rows i

-- a string is a table whose first rows, as many as the count says, form a roll; a string of another length is no table
unfoldable pub rows_fit : ℕ → List ℕ → Bool
rows_fit count rows =
    eqb (length rows) table_bytes && leb count most_rows && each (stands rows) count && all_zero (drop (row_bytes * count) rows)
