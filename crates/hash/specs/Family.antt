-- What the hash functions of FIPS 180-4 with eight working variables differ in (Figure 1, 4.1, 4.2, 5.3).
use Rattle.std.specs.Prelude.{ℕ, ◌*◌, ◌/◌, List}

pub record Family : Type 0 where
  -- w, the bits of a word
  pub width : ℕ
  pub Σ₀ : ℕ → ℕ
  pub Σ₁ : ℕ → ℕ
  pub σ₀ : ℕ → ℕ
  pub σ₁ : ℕ → ℕ
  -- K, the constants, one for each round
  pub K : List ℕ
  -- the schedule's words past the sixteen of the chunk
  pub further : ℕ
  -- H^(0), the initial hash value: eight words
  pub H : List ℕ
  -- the bytes of the digest, the left-most of the final hash value
  pub size : ℕ

-- the bytes of a word
unfoldable pub word_bytes : Family → ℕ
word_bytes F = F.width / 8

-- the bytes of a chunk: "sixteen" words
unfoldable pub chunk_bytes : Family → ℕ
chunk_bytes F = 16 * word_bytes F

-- the bytes of the padding's length field: two words
unfoldable pub length_bytes : Family → ℕ
length_bytes F = 2 * word_bytes F
