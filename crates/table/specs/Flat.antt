-- The rows of a table as the flat bytes over which the rules are stated, and back. 01, "Row": "label 16 bytes .., tail 32, height 8"; "Layouts": "Numbers
-- are big-endian."
use mathlib.Core.List.{List, map, flatten, ◌++◌}
use Rattle.std.specs.Prelude.{ℕ, ◌+◌, ◌-◌, take, drop, replicate}
use Rattle.octets.specs.Numbers.{number_of, bytes_of}
use Rattle.octets.specs.Strings.{pieces}
use Rattle.rows.specs.Sizes.{label_bytes, tail_bytes, height_bytes, row_bytes, table_bytes, most_rows}
use Rattle.table.specs.declared.Row.{Row}

-- a row's bytes
unfoldable pub row_string : Row → List ℕ
row_string r = r.label ++ r.tail ++ bytes_of height_bytes r.height

-- the bytes of rows, one behind the other
unfoldable pub flattened : List Row → List ℕ
flattened rows = flatten (map row_string rows)

-- a row's bytes taken apart
unfoldable pub row_cut : List ℕ → Row
row_cut s =
    record {
      label = take label_bytes s;
      tail = take tail_bytes (drop label_bytes s);
      height = number_of (take height_bytes (drop (label_bytes + tail_bytes) s));
    }

-- the first n rows of a string
unfoldable pub rows_of : ℕ → List ℕ → List Row
rows_of n s = map row_cut (pieces row_bytes n s)

-- rows of which those from one place to before another are taken from others
unfoldable pub rows_put : ℕ → ℕ → List Row → List Row → List Row
rows_put from to old new = take from old ++ take (to - from) (drop from new) ++ drop to old

-- the rows of a table of zeros
unfoldable pub blank_rows : List Row
blank_rows = rows_of most_rows (replicate table_bytes 0)
