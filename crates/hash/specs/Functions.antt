-- FIPS 180-4, 4.1.2 and 4.1.3: the six functions on words of w bits. The four sigmas differ in their amounts alone.
use Rattle.std.specs.Prelude.{ℕ, bit_and, bit_xor}
use Rattle.hash.specs.Words.{complement, shr, rotr}

-- Ch(x, y, z) = (x ∧ y) ⊕ (¬x ∧ z)
unfoldable pub Ch : ℕ → ℕ → ℕ → ℕ → ℕ
Ch w x y z = bit_xor (bit_and x y) (bit_and (complement w x) z)

-- Maj(x, y, z) = (x ∧ y) ⊕ (x ∧ z) ⊕ (y ∧ z)
unfoldable pub Maj : ℕ → ℕ → ℕ → ℕ
Maj x y z = bit_xor (bit_xor (bit_and x y) (bit_and x z)) (bit_and y z)

-- Σ(x) = ROTR^i(x) ⊕ ROTR^j(x) ⊕ ROTR^k(x)
unfoldable pub upper_sigma : ℕ → ℕ → ℕ → ℕ → ℕ → ℕ
upper_sigma w i j k x = bit_xor (bit_xor (rotr w i x) (rotr w j x)) (rotr w k x)

-- σ(x) = ROTR^i(x) ⊕ ROTR^j(x) ⊕ SHR^k(x)
unfoldable pub lower_sigma : ℕ → ℕ → ℕ → ℕ → ℕ → ℕ
lower_sigma w i j k x = bit_xor (bit_xor (rotr w i x) (rotr w j x)) (shr k x)
