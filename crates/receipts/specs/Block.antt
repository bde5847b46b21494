-- A block of the report's file. 02, M-103: "a file of 512-byte blocks, each ending in 01's 4-byte check, unused bytes zero. The first byte is the type: 1 is a
-- rack; 2 is a receipt (asked kind, label, nonce, identity, statement length, 137 bytes for the statement, signer count, 15 pairs)"; "Lengths and counts are
-- one byte each."
use Rattle.std.specs.Prelude.{Bool, cond, ◌&&◌, List, ℕ, ◌+◌, ◌-◌, ◌*◌, length, get_or, take, drop, eqb, leb}
use Rattle.octets.specs.Strings.{all_zero}
use Rattle.octets.specs.Layouts.{holds}
use Rattle.rack.specs.Racks.{most, rack_bytes, rack_layout}
use Rattle.statement.specs.Kinds.{digest_bytes, label_bytes, reading_size}
use Rattle.checks.specs.Check.{block_bytes, checked_bytes, check_right}

-- "The first byte is the type: 1 is a rack; 2 is a receipt"; 0 here stands for a damaged block
abbrev pub rack_type : ℕ
rack_type = 1

abbrev pub receipt_type : ℕ
receipt_type = 2

abbrev pub damaged : ℕ
damaged = 0

abbrev pub type_in : List ℕ → ℕ
type_in b = get_or b 0 0

-- a rack's block: the type, then the rack as 01 lays it out
abbrev pub rack_place : ℕ
rack_place = 1

-- the rack's own first byte
abbrev pub key_count : List ℕ → ℕ
key_count b = get_or b rack_place 0

abbrev pub rack_in : List ℕ → List ℕ
rack_in b = take (rack_bytes (key_count b)) (drop rack_place b)

-- what stands between the rack and the check
abbrev pub rack_rest : List ℕ → List ℕ
rack_rest b = take (checked_bytes - (rack_place + rack_bytes (key_count b))) (drop (rack_place + rack_bytes (key_count b)) b)

-- "a rack that breaks 01", "an unused byte that isn't zero"
unfoldable pub rack_sound : List ℕ → Bool
rack_sound b = eqb (type_in b) rack_type && (leb (key_count b) most && (holds rack_layout (rack_in b) && all_zero (rack_rest b)))

-- a receipt's block: "asked kind, label, nonce, identity, statement length, 137 bytes for the statement, signer count, 15 pairs"
abbrev pub asked_place : ℕ
asked_place = 1

abbrev pub label_place : ℕ
label_place = asked_place + 1

abbrev pub nonce_place : ℕ
nonce_place = label_place + label_bytes

abbrev pub identity_place : ℕ
identity_place = nonce_place + label_bytes

abbrev pub length_place : ℕ
length_place = identity_place + digest_bytes

abbrev pub statement_place : ℕ
statement_place = length_place + 1

abbrev pub count_place : ℕ
count_place = statement_place + reading_size

abbrev pub pairs_place : ℕ
pairs_place = count_place + 1

abbrev pub asked_in : List ℕ → ℕ
asked_in b = get_or b asked_place 0

abbrev pub label_in : List ℕ → List ℕ
label_in b = take label_bytes (drop label_place b)

abbrev pub nonce_in : List ℕ → List ℕ
nonce_in b = take label_bytes (drop nonce_place b)

abbrev pub identity_in : List ℕ → List ℕ
identity_in b = take digest_bytes (drop identity_place b)

abbrev pub length_in : List ℕ → ℕ
length_in b = get_or b length_place 0

abbrev pub statement_in : List ℕ → List ℕ
statement_in b = take (length_in b) (drop statement_place b)

abbrev pub count_in : List ℕ → ℕ
count_in b = get_or b count_place 0

abbrev pub signers_in : List ℕ → List ℕ
signers_in b = take (2 * count_in b) (drop pairs_place b)

-- the statement's places past its length; the pairs past the count and what stands behind them up to the check
abbrev pub statement_rest : List ℕ → List ℕ
statement_rest b = take (count_place - (statement_place + length_in b)) (drop (statement_place + length_in b) b)

abbrev pub signers_rest : List ℕ → List ℕ
signers_rest b = take (checked_bytes - (pairs_place + 2 * count_in b)) (drop (pairs_place + 2 * count_in b) b)

-- "a statement length over 137, a signer count over 15, an unused byte that isn't zero"
unfoldable pub receipt_sound : List ℕ → Bool
receipt_sound b =
    eqb (type_in b) receipt_type
    && (leb (length_in b) reading_size && (leb (count_in b) most && (all_zero (statement_rest b) && all_zero (signers_rest b))))

-- "a last short block, a bad check"
unfoldable pub whole : List ℕ → Bool
whole b = eqb (length b) block_bytes && check_right b

-- "Damaged are: a last short block, a bad check, another type, a rack that breaks 01, a statement length over 137, a signer count over 15, an unused byte that
-- isn't zero." Otherwise a block is what its type says.
unfoldable pub sort : List ℕ → ℕ
sort b = cond (whole b) (cond (rack_sound b) rack_type (cond (receipt_sound b) receipt_type damaged)) damaged
