-- The blocks of a roll. 01, "Roll": "It travels in 512-byte blocks: block number (from 0), number of blocks, row count of the whole roll, zero; nine row places
-- of 56 bytes, unused ones zero; then the first 4 bytes of SHA-256 over the first 508. The number of blocks is 1 for an empty roll, otherwise the count divided
-- by 9, rounded up."
use Rattle.std.specs.Prelude.{cond, List, [], ◌∷◌, ◌++◌, ℕ, zero, suc, ◌+◌, ◌-◌, ◌*◌, ◌/◌, take, drop, eqb}
use Rattle.rows.specs.Sizes.{row_bytes}
pub use Rattle.checks.specs.Check.{block_bytes, checked_bytes, check_bytes}
unfoldable pub use Rattle.checks.specs.Check.{checked}

-- the row places of a block
abbrev pub places : ℕ
places = 9

abbrev pub places_bytes : ℕ
places_bytes = places * row_bytes

abbrev pub head_bytes : ℕ
head_bytes = 4

-- where a block says the row count of the whole roll
abbrev pub count_place : ℕ
count_place = 2

-- the byte behind it
abbrev pub layout_byte : ℕ
layout_byte = 0

unfoldable pub blocks : ℕ → ℕ
blocks count = cond (eqb count 0) 1 ((count + (places - 1)) / places)

-- "block number (from 0), number of blocks, row count of the whole roll, zero"
unfoldable pub head : ℕ → ℕ → List ℕ
head count b = b ∷ blocks count ∷ count ∷ layout_byte ∷ []

-- the places of block b, out of the table
unfoldable pub places_of : List ℕ → ℕ → List ℕ
places_of rows b = take places_bytes (drop (places_bytes * b) rows)

-- block b of a roll
unfoldable pub block : ℕ → List ℕ → ℕ → List ℕ
block count rows b = checked (head count b ++ places_of rows b)

-- the first n blocks, one behind the other
unfoldable pub first_blocks : ℕ → List ℕ → ℕ → List ℕ
first_blocks count rows zero = []
first_blocks count rows (suc n) = first_blocks count rows n ++ block count rows n

-- the places of the first n blocks of a string, one behind the other
unfoldable pub gathered : List ℕ → ℕ → List ℕ
gathered s zero = []
gathered s (suc n) = gathered s n ++ take places_bytes (drop (block_bytes * n + head_bytes) s)
