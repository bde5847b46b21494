-- FIPS 180-4, 6.2 and 6.4: the hash value after each chunk, and the message digest.
use Rattle.std.specs.Prelude.{ℕ, zero, suc, ◌/◌, List, [], ◌++◌, length, take, slice_index}
use Rattle.octets.specs.Numbers.{bytes_of}
use Rattle.hash.specs.Family.{Family, word_bytes, chunk_bytes}
use Rattle.hash.specs.Padding.{padded, chunk}
use Rattle.hash.specs.Rounds.{compressed}

-- H^(n), from the hash value H through the first n chunks of a string
unfoldable pub absorbed : Family → List ℕ → List ℕ → ℕ → List ℕ
absorbed F H s zero = H
absorbed F H s (suc n) = compressed F (absorbed F H s n) (chunk F s n)

-- the bytes of the first n words: H_0 ‖ H_1 ‖ ..
unfoldable pub joined : ℕ → List ℕ → ℕ → List ℕ
joined k H zero = []
joined k H (suc n) = joined k H n ++ bytes_of k (slice_index H n)

-- "the resulting message digest", cut to its left-most bytes where the function says so
unfoldable pub digest : Family → List ℕ → List ℕ
digest F m = take F.size (joined (word_bytes F) (absorbed F F.H (padded F m) (length (padded F m) / chunk_bytes F)) 8)
