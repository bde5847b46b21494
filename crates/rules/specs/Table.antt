-- A row added to the table, and a row moved on. 01, "New": "The row is added in label order at height 0."
use Rattle.std.specs.Prelude.{List, ◌++◌, ℕ, ◌+◌, ◌*◌, length, take, drop, replicate}
use Rattle.octets.specs.Numbers.{bytes_of}
use Rattle.octets.specs.Strings.{put}
use Rattle.rows.specs.Sizes.{label_bytes, tail_bytes, height_bytes, row_bytes}

-- the row of a new ledger
abbrev pub new_row : List ℕ → List ℕ
new_row label = label ++ replicate (tail_bytes + height_bytes) 0

-- the table with a row more before row i; the place that falls off at its end was not used
unfoldable pub widened : List ℕ → ℕ → List ℕ → List ℕ
widened rows i label = take (length rows) (take (row_bytes * i) rows ++ new_row label ++ drop (row_bytes * i) rows)

-- the table with row i at another tail and height
unfoldable pub moved : List ℕ → ℕ → List ℕ → ℕ → List ℕ
moved rows i tail height = put rows (row_bytes * i + label_bytes) (tail ++ bytes_of height_bytes height)
