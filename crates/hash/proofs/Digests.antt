-- The digest by the way that the library takes: the whole chunks of the message itself, then its ending. Assumes nothing.
use Rattle.std.proofs.Common.{◌≡◌, ℕ, ◌+◌, ◌*◌, ◌/◌, ◌%◌, List, length, take, drop, sym, ap, ◌∙◌, ap₂, le_refl, arith, take_all, take-take}
use Rattle.hash.specs.Family.{word_bytes, chunk_bytes}
use Rattle.hash.specs.Padding.{padded}
use Rattle.hash.specs.Digest.{absorbed, joined, digest}
use Rattle.hash.specs.Sha256.{initial_value, sha_256, sha256}
use Rattle.hash.proofs.Absorbed.{absorbed_after, absorbed_agree}
use Rattle.hash.proofs.Padded.{ended, padded_front, padded_rest, padded_chunks}
use Rattle.hash.proofs.Stored.{joined_length}

module _ (m last : List ℕ) (q k : ℕ) (whole : q ≡ length m / 64) (ends : k ≡ (length m % 64 + 72) / 64)
    (given : take (64 * k) last ≡ ended sha_256 (drop (64 * q) m) (length m)) where
  value : absorbed sha_256 initial_value (padded sha_256 m) (q + k) ≡ absorbed sha_256 (absorbed sha_256 initial_value m q) last k
  unfolding word_bytes chunk_bytes sha_256
  value =
      absorbed_after sha_256 initial_value (padded sha_256 m) q k
      ∙ ap₂ (λ (h s : List ℕ). absorbed sha_256 h s k)
      (absorbed_agree sha_256 initial_value (padded sha_256 m) m q (padded_front m q whole)) (padded_rest m q whole ∙ sym given)
      ∙ absorbed_agree sha_256 (absorbed sha_256 initial_value m q) (take (64 * k) last) last k (take-take (64 * k) (64 * k) last (le_refl (64 * k)))

  pub digest_by : joined 4 (absorbed sha_256 (absorbed sha_256 initial_value m q) last k) 8 ≡ sha256 m
  unfolding word_bytes chunk_bytes digest sha_256 sha256
  digest_by =
      let h : List ℕ = absorbed sha_256 (absorbed sha_256 initial_value m q) last k in
      let n : length (padded sha_256 m) / 64 ≡ q + k = padded_chunks m q whole ∙ ap (λ (i : ℕ). q + i) (sym ends) in
      sym (take_all 32 (joined 4 h 8) (omega (arith, joined_length 4 h 8)))
      ∙ ap (λ (l : List ℕ). take 32 (joined 4 l 8)) (sym (ap (absorbed sha_256 initial_value (padded sha_256 m)) n ∙ value))
