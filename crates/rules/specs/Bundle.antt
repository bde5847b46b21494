-- 01, "Handover bundle": "At most 65,536 bytes; positions, marks and block counts are one byte each. One byte a; a old entries (position in the previous
-- rack, marks, block count 1 to 7, the roll blocks); one byte b; b new entries (position in the own rack, marks); then for each old entry, for each row of
-- this keeper's roll in order, a two-byte count of 0 to 64 and that many entry digests; nothing after. Positions strictly rise within each list and lie
-- below the rack's size."
use Rattle.std.specs.Prelude.{Bool, ◌&&◌, List, [], ◌∷◌, ℕ, zero, suc, ◌+◌, ◌*◌, length, get_or, take, drop, eqb, leb}
use Rattle.octets.specs.Numbers.{number_of}
use Rattle.marks.specs.Entries.{entries_fit, pair_position, pair_marks}
use Rattle.rows.specs.Table.{each}
use Rattle.roll.specs.Blocks.{block_bytes}
use Rattle.statement.specs.Kinds.{digest_bytes}

abbrev pub longest_bundle : ℕ
longest_bundle = 65536

abbrev pub most_blocks : ℕ
most_blocks = 7

abbrev pub most_added : ℕ
most_added = 64

-- the byte at a place; past the end there are zeros
abbrev pub byte : List ℕ → ℕ → ℕ
byte s at = get_or s at 0

-- "One byte a"
abbrev pub old_count : List ℕ → ℕ
old_count s = byte s 0

-- where old entry i begins
unfoldable pub old_at : List ℕ → ℕ → ℕ
old_at s zero = 1
old_at s (suc i) = old_at s i + (3 + block_bytes * byte s (old_at s i + 2))

-- "position in the previous rack, marks, block count .., the roll blocks"
abbrev pub old_position : List ℕ → ℕ → ℕ
old_position s i = byte s (old_at s i)

abbrev pub old_marks : List ℕ → ℕ → ℕ
old_marks s i = byte s (old_at s i + 1)

abbrev pub old_blocks : List ℕ → ℕ → ℕ
old_blocks s i = byte s (old_at s i + 2)

unfoldable pub old_roll : List ℕ → ℕ → List ℕ
old_roll s i = take (block_bytes * old_blocks s i) (drop (old_at s i + 3) s)

-- "one byte b", behind the old entries
unfoldable pub new_at : List ℕ → ℕ
new_at s = old_at s (old_count s)

abbrev pub new_count : List ℕ → ℕ
new_count s = byte s (new_at s)

-- "b new entries (position in the own rack, marks)"
unfoldable pub new_entries : List ℕ → List ℕ
new_entries s = take (2 * new_count s) (drop (new_at s + 1) s)

-- "a two-byte count"
unfoldable pub two_byte : List ℕ → ℕ → ℕ
two_byte s at = number_of (byte s at ∷ byte s (at + 1) ∷ [])

-- where list j of entry digests begins; the lists stand one behind the other after the new entries
unfoldable pub list_at : List ℕ → ℕ → ℕ
list_at s zero = new_at s + (1 + 2 * new_count s)
list_at s (suc j) = list_at s j + (2 + digest_bytes * two_byte s (list_at s j))

-- how many digests list j has, and these
abbrev pub added : List ℕ → ℕ → ℕ
added s j = two_byte s (list_at s j)

unfoldable pub digests : List ℕ → ℕ → List ℕ
digests s j = take (digest_bytes * added s j) (drop (list_at s j + 2) s)

-- "for each old entry, for each row of this keeper's roll in order": the list of old entry i and row r, of a roll of so many rows
abbrev pub list_of : ℕ → ℕ → ℕ → ℕ
list_of rows i r = rows * i + r

-- "block count 1 to 7"
unfoldable pub blocks_fit : List ℕ → ℕ → Bool
blocks_fit s i = leb 1 (old_blocks s i) && leb (old_blocks s i) most_blocks

-- "a two-byte count of 0 to 64"
unfoldable pub added_fits : List ℕ → ℕ → Bool
added_fits s j = leb (added s j) most_added

-- a bundle for a previous rack of n, an own rack of m and a roll of so many rows; "nothing after"
unfoldable pub bundle_fits : ℕ → ℕ → ℕ → List ℕ → Bool
bundle_fits n m rows s =
    leb (length s) longest_bundle
    && (entries_fit n (old_position s) (old_marks s) (old_count s) && each (blocks_fit s) (old_count s))
    && entries_fit m (pair_position (new_entries s)) (pair_marks (new_entries s)) (new_count s)
    && each (added_fits s) (rows * old_count s)
    && eqb (list_at s (rows * old_count s)) (length s)
