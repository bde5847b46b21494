-- The gap of the padding is the standard's k in bytes: "the smallest, non-negative solution to the equation ℓ + 1 + k ≡ 448 mod 512" leaves whole chunks,
-- and fewer zeros do not. Assumes nothing.
use Rattle.std.proofs.Common.{◌≡◌, ℕ, ◌+◌, ◌%◌, ◌≤◌, arith}
use Rattle.hash.specs.Family.{word_bytes, chunk_bytes, length_bytes}
use Rattle.hash.specs.Padding.{gap}
use Rattle.hash.specs.Sha256.{sha_256}

pub gap_solves : (n : ℕ) → (n + 1 + gap sha_256 n) % 64 ≡ 56
unfolding word_bytes chunk_bytes length_bytes gap sha_256
gap_solves n = omega arith

pub gap_smallest : (n k : ℕ) → (n + 1 + k) % 64 ≡ 56 → gap sha_256 n ≤ k
unfolding word_bytes chunk_bytes length_bytes gap sha_256
gap_smallest n k h = omega arith
