-- The sizes of a row and of the table. 01, "Row": "label 16 bytes .., tail 32, height 8. Heights are 0 to 4,294,967,295"; "Roll": "0 to 63 rows".
use Rattle.std.specs.Prelude.{ℕ, ◌+◌, ◌*◌}

abbrev pub label_bytes : ℕ
label_bytes = 16

abbrev pub tail_bytes : ℕ
tail_bytes = 32

abbrev pub height_bytes : ℕ
height_bytes = 8

-- label, tail, height
abbrev pub row_bytes : ℕ
row_bytes = label_bytes + tail_bytes + height_bytes

abbrev pub most_rows : ℕ
most_rows = 63

abbrev pub table_bytes : ℕ
table_bytes = most_rows * row_bytes

abbrev pub top_height : ℕ
top_height = 4294967295
