-- The kinds of statements: their numbers, their sizes, and the fields by their sizes and places. 01, "Layouts", "Statement".
use Rattle.std.specs.Prelude.{ℕ, ◌+◌, List, take, drop}
use Rattle.octets.specs.Numbers.{number_of}
-- identity, tail and digests have 32 bytes, a label 16, a height 8, a nonce twice 8
pub use Rattle.rows.specs.Sizes.{tail_bytes as digest_bytes, label_bytes, height_bytes as number_bytes}
use Rattle.statement.specs.declared.Kind.{Kind}
use Rattle.statement.specs.declared.Kind.TheVariants.{Blank, New, Append, Read, Finalise, Initialise}

-- "1 new, 2 append", "3 read", "4 finalise", "5 initialise"; 0 where there is no statement
abbrev pub kind_number : Kind → ℕ
kind_number Blank = 0
kind_number New = 1
kind_number (Append height) = 2
kind_number (Read height nonce-high nonce-low) = 3
kind_number Finalise = 4
kind_number Initialise = 5

-- "1 new, 2 append: .. 121 bytes"
abbrev pub receipt_size : ℕ
receipt_size = 121

-- "3 read: .. 137 bytes"
abbrev pub reading_size : ℕ
reading_size = 137

-- "4 finalise: .. 129 bytes. 5 initialise: .. 129 bytes."
abbrev pub handover_size : ℕ
handover_size = 129

abbrev pub size : Kind → ℕ
size Blank = 0
size New = receipt_size
size (Append height) = receipt_size
size (Read height nonce-high nonce-low) = reading_size
size Finalise = handover_size
size Initialise = handover_size

-- after the kind the identity, then three digests
abbrev pub identity_place : ℕ
identity_place = 1

abbrev pub first_place : ℕ
first_place = identity_place + digest_bytes

abbrev pub second_place : ℕ
second_place = first_place + digest_bytes

abbrev pub third_place : ℕ
third_place = second_place + digest_bytes

-- or one digest, and the label, tail, height and nonce
abbrev pub label_place : ℕ
label_place = first_place + digest_bytes

abbrev pub tail_place : ℕ
tail_place = label_place + label_bytes

abbrev pub height_place : ℕ
height_place = tail_place + digest_bytes

abbrev pub nonce_place : ℕ
nonce_place = height_place + number_bytes

-- the nonce's second half
abbrev pub nonce_half : ℕ
nonce_half = nonce_place + number_bytes

-- the fields of a string
abbrev pub digest_at : ℕ → List ℕ → List ℕ
digest_at at s = take digest_bytes (drop at s)

abbrev pub label_at : ℕ → List ℕ → List ℕ
label_at at s = take label_bytes (drop at s)

abbrev pub number_at : ℕ → List ℕ → ℕ
number_at at s = number_of (take number_bytes (drop at s))
