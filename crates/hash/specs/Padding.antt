-- FIPS 180-4, 5.1 and 5.2: padding the message, and parsing it into chunks of sixteen words. Messages are strings of bytes.
use Rattle.std.specs.Prelude.{ℕ, zero, suc, ◌+◌, ◌-◌, ◌*◌, ◌%◌, List, [], ◌∷◌, ◌++◌, length, take, drop, replicate}
use Rattle.octets.specs.Numbers.{number_of, bytes_of}
use Rattle.hash.specs.Family.{Family, word_bytes, chunk_bytes, length_bytes}

-- how many zero bytes follow the byte 0x80: the fewest with which message, 0x80, zeros and length field are whole chunks
unfoldable pub gap : Family → ℕ → ℕ
gap F n = (2 * chunk_bytes F - (n % chunk_bytes F + 1 + length_bytes F)) % chunk_bytes F

-- "append the bit 1 to the end of the message, followed by k zero bits .. then append the block that is equal to the number ℓ"
unfoldable pub padded : Family → List ℕ → List ℕ
padded F m = m ++ (0x80 ∷ replicate (gap F (length m)) 0) ++ bytes_of (length_bytes F) (8 * length m)

-- the first n words of a string, k bytes each
unfoldable pub words : ℕ → List ℕ → ℕ → List ℕ
words k s zero = []
words k s (suc n) = words k s n ++ (number_of (take k (drop (k * n) s)) ∷ [])

-- M^(i), chunk i of a string: sixteen words
unfoldable pub chunk : Family → List ℕ → ℕ → List ℕ
chunk F s i = words (word_bytes F) (take (chunk_bytes F) (drop (chunk_bytes F * i) s)) 16
