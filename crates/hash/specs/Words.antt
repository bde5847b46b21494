-- FIPS 180-4, 2.2.2 and 3.2: the operations on words of w bits. Its ∧, ∨ and ⊕ are `bit_and`, `bit_or` and `bit_xor` of the library.
use Rattle.std.specs.Prelude.{ℕ, ◌+◌, ◌-◌, ◌*◌, ◌/◌, ◌%◌, ◌^◌, bit_or}

-- ¬ x, the bitwise complement
unfoldable pub complement : ℕ → ℕ → ℕ
complement w x = (2 ^ w - 1) - x

-- x + y: "addition modulo 2^w"
unfoldable pub plus : ℕ → ℕ → ℕ → ℕ
plus w x y = (x + y) % 2 ^ w

-- x << n: "discarding the left-most n bits of the word x and then padding the result with n zeroes on the right"
unfoldable pub shl : ℕ → ℕ → ℕ → ℕ
shl w n x = (x * 2 ^ n) % 2 ^ w

-- SHR^n(x) = x >> n
unfoldable pub shr : ℕ → ℕ → ℕ
shr n x = x / 2 ^ n

-- ROTR^n(x) = (x >> n) ∨ (x << w - n)
unfoldable pub rotr : ℕ → ℕ → ℕ → ℕ
rotr w n x = bit_or (shr n x) (shl w (w - n) x)
