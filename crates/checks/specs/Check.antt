-- The check of a block. 01, "Roll": "It travels in 512-byte blocks: .. then the first 4 bytes of SHA-256 over the first 508."; 02, M-104: "blocks of 512
-- bytes: .. the 4-byte check".
use Rattle.std.specs.Prelude.{Bool, List, ◌++◌, ℕ, ◌-◌, ◌*◌, take, drop}
use Rattle.octets.specs.Strings.{same}
use Rattle.hash.specs.Sha256.{sha256}

abbrev pub block_bytes : ℕ
block_bytes = 512

abbrev pub check_bytes : ℕ
check_bytes = 4

-- those before the check
abbrev pub checked_bytes : ℕ
checked_bytes = block_bytes - check_bytes

-- "the first 4 bytes of SHA-256"
abbrev pub check : List ℕ → List ℕ
check s = take check_bytes (sha256 s)

-- a block's first bytes with their check behind them
unfoldable pub checked : List ℕ → List ℕ
checked s = s ++ check s

-- a block ends in the check of what stands before it
unfoldable pub check_right : List ℕ → Bool
check_right b = same (check (take checked_bytes b)) (drop checked_bytes b)

-- block i of a string of blocks, of which the last may be short
unfoldable pub block_at : List ℕ → ℕ → List ℕ
block_at s i = take block_bytes (drop (block_bytes * i) s)
