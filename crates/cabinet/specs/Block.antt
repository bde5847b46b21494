-- A block of the store. 02, M-104: "blocks of 512 bytes: label, height in 8 bytes, entry digest, tail, text length in 2 bytes, up to 418 bytes of text,
-- zeros, the 4-byte check."
use Rattle.std.specs.Prelude.{Bool, not, ◌&&◌, List, ◌++◌, ℕ, ◌+◌, ◌-◌, length, take, drop, replicate, leb}
use Rattle.octets.specs.Numbers.{number_of, bytes_of}
use Rattle.octets.specs.Strings.{all_zero, same}
use Rattle.hash.specs.Sha256.{sha256}
use Rattle.rows.specs.Sizes.{label_bytes, tail_bytes, height_bytes, top_height}
use Rattle.checks.specs.Check.{checked_bytes, checked, check_right}

abbrev pub digest_bytes : ℕ
digest_bytes = tail_bytes

abbrev pub length_bytes : ℕ
length_bytes = 2

-- where each part stands
abbrev pub height_place : ℕ
height_place = label_bytes

abbrev pub digest_place : ℕ
digest_place = height_place + height_bytes

abbrev pub tail_place : ℕ
tail_place = digest_place + digest_bytes

abbrev pub length_place : ℕ
length_place = tail_place + tail_bytes

abbrev pub text_place : ℕ
text_place = length_place + length_bytes

-- "up to 418 bytes of text"
abbrev pub most_text : ℕ
most_text = checked_bytes - text_place

unfoldable pub label_in : List ℕ → List ℕ
label_in b = take label_bytes b

unfoldable pub height_in : List ℕ → ℕ
height_in b = number_of (take height_bytes (drop height_place b))

unfoldable pub digest_in : List ℕ → List ℕ
digest_in b = take digest_bytes (drop digest_place b)

unfoldable pub tail_in : List ℕ → List ℕ
tail_in b = take tail_bytes (drop tail_place b)

unfoldable pub length_in : List ℕ → ℕ
length_in b = number_of (take length_bytes (drop length_place b))

unfoldable pub text_in : List ℕ → List ℕ
text_in b = take (length_in b) (drop text_place b)

-- what stands between the text and the check
unfoldable pub rest_in : List ℕ → List ℕ
rest_in b = take (most_text - length_in b) (drop (text_place + length_in b) b)

-- "labels aren't all zero, heights are 1 to 4,294,967,295"; "up to 418 bytes of text, zeros"
unfoldable pub layout_right : List ℕ → Bool
layout_right b =
    not (all_zero (label_in b)) && (leb 1 (height_in b) && (leb (height_in b) top_height && (leb (length_in b) most_text && all_zero (rest_in b))))

-- "The entry digest is SHA-256 of the text"
unfoldable pub digest_right : List ℕ → Bool
digest_right b = same (sha256 (text_in b)) (digest_in b)

-- a used block that is not damaged; a block of zeros is none, as its label is all zero
unfoldable pub sound : List ℕ → Bool
sound b = layout_right b && (check_right b && digest_right b)

-- "A block of 512 zeros is unused; any other is damaged if its layout, check or entry digest is wrong."
unfoldable pub unused : List ℕ → Bool
unused b = all_zero b

unfoldable pub damaged : List ℕ → Bool
damaged b = not (unused b) && not (sound b)

-- the block of a label, a height, an entry digest, a tail and a text
unfoldable pub block_of : List ℕ → ℕ → List ℕ → List ℕ → List ℕ → List ℕ
block_of label height digest tail text =
    checked
    (label ++ bytes_of height_bytes height ++ digest ++ tail ++ bytes_of length_bytes (length text) ++ text ++ replicate (most_text - length text) 0)
