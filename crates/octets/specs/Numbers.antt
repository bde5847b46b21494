-- Numbers and strings of bytes. 01, "Layouts": "Numbers are big-endian." FIPS 180-4, 3.1, says the same of its words.
use Rattle.std.specs.Prelude.{List, [], ◌∷◌, ℕ, zero, suc, ◌+◌, ◌*◌, ◌/◌, ◌%◌, ◌^◌, length}

-- the number that a string of bytes is, the first byte the highest
unfoldable pub number_of : List ℕ → ℕ
number_of [] = 0
number_of (b ∷ bs) = b * 256 ^ length bs + number_of bs

-- the last n bytes of a number, the highest first
unfoldable pub bytes_of : ℕ → ℕ → List ℕ
bytes_of zero x = []
bytes_of (suc n) x = (x / 256 ^ n) % 256 ∷ bytes_of n x
