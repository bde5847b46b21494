-- A row. 01, "Row": "label 16 bytes (not all zero), tail 32, height 8. Heights are 0 to 4,294,967,295. Height 0 has the all-zero tail."
use Rattle.std.specs.Prelude.{Bool, true, not, cond, ◌&&◌, List, ℕ, ◌+◌, ◌*◌, take, drop, eqb, leb}
use Rattle.octets.specs.Numbers.{number_of}
use Rattle.octets.specs.Strings.{all_zero}
use Rattle.rows.specs.Sizes.{label_bytes, tail_bytes, height_bytes, row_bytes, top_height}

-- rows stand one behind the other in a string; the parts of row i
unfoldable pub label_of : List ℕ → ℕ → List ℕ
label_of rows i = take label_bytes (drop (row_bytes * i) rows)

unfoldable pub tail_of : List ℕ → ℕ → List ℕ
tail_of rows i = take tail_bytes (drop (row_bytes * i + label_bytes) rows)

unfoldable pub height_of : List ℕ → ℕ → ℕ
height_of rows i = number_of (take height_bytes (drop (row_bytes * i + label_bytes + tail_bytes) rows))

-- what makes a row of a label, a tail and a height
unfoldable pub row_holds : List ℕ → List ℕ → ℕ → Bool
row_holds label tail height = not (all_zero label) && (leb height top_height && cond (eqb height 0) (all_zero tail) true)

unfoldable pub row_fits : List ℕ → ℕ → Bool
row_fits rows i = row_holds (label_of rows i) (tail_of rows i) (height_of rows i)
