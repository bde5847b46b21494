-- The digest of a roll and the tail after an entry. 01, "Roll": "Roll digest = SHA-256 of 0x02, the count as one byte, the rows."; "Append": "new tail =
-- SHA-256 of 0x01, old tail, the entry's 32-byte digest."
use Rattle.std.specs.Prelude.{List, ◌∷◌, ◌++◌, ℕ, ◌*◌, take}
use Rattle.hash.specs.Sha256.{sha256}
use Rattle.rows.specs.Sizes.{row_bytes}
use Rattle.rows.specs.Search.{held}

abbrev pub append_mark : ℕ
append_mark = 0x01

abbrev pub roll_mark : ℕ
roll_mark = 0x02

-- "0x02, the count as one byte, the rows": of the first n rows of a string
abbrev pub rows_string : ℕ → List ℕ → List ℕ
rows_string n rows = roll_mark ∷ n ∷ take (row_bytes * n) rows

unfoldable pub digest_of_rows : ℕ → List ℕ → List ℕ
digest_of_rows n rows = sha256 (rows_string n rows)

-- of the first `count` rows of a table, or of those that it holds
unfoldable pub roll_string : ℕ → List ℕ → List ℕ
roll_string count rows = rows_string (held count rows) rows

unfoldable pub roll_digest : ℕ → List ℕ → List ℕ
roll_digest count rows = sha256 (roll_string count rows)

unfoldable pub appended : List ℕ → List ℕ → List ℕ
appended tail entry = sha256 (append_mark ∷ tail ++ entry)
