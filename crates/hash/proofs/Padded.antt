-- Laws of padding: what an area of zeros holds after the last bytes, the byte 0x80 and the length are stored, and where a padded message is cut. Assumes nothing.
use Rattle.std.proofs.Common.{◌≡◌, ℕ, suc, ◌+◌, ◌-◌, ◌*◌, ◌/◌, ◌%◌, ◌≤◌, List, ◌∷◌, ◌++◌, length, take, drop, set, replicate, sym, refl, ap, ◌∙◌, ap₂, append_assoc, zero-add, arith, length-append}
use lib.ListN.{length-replicate, replicate-append-replicate}
use lib.Seq.{set_at, take-append-add, take-append-le, drop-append-le}
use Rattle.octets.specs.Numbers.{bytes_of}
use Rattle.octets.specs.Strings.{put}
use Rattle.octets.proofs.Numbers.{bytes_length, bytes_small}
use Rattle.octets.proofs.Puts.{take_put}
use Rattle.octets.proofs.Parts.{take-replicate, drop-replicate}
use Rattle.hash.specs.Family.{Family, word_bytes, chunk_bytes, length_bytes}
use Rattle.hash.specs.Padding.{gap, padded}
use Rattle.hash.specs.Sha256.{sha_256}

-- the last bytes of a message of n bytes, and its padding
unfoldable pub ended : Family → List ℕ → ℕ → List ℕ
ended F l n = l ++ (0x80 ∷ replicate (gap F n) 0) ++ bytes_of (length_bytes F) (8 * n)

-- an area of zeros with a string and one element more in front
marked : (l : List ℕ) (n v : ℕ) → set (put (replicate (length l + suc n) 0) 0 l) (length l) v ≡ l ++ (v ∷ replicate n 0)
unfolding put
marked l n v = rw (zero-add (length l), drop-replicate (length l) (suc n) 0) (set_at l 0 (replicate n 0) v (length l) refl)

-- three stores make an area of 128 zeros the ending of a message of n bytes, in its first e bytes
module _ (l : List ℕ) (n e : ℕ) (r : length l ≡ n % 64) (small : n ≤ 65536) (ends : e ≡ 64 * ((length l + 72) / 64)) where
  body : List ℕ
  body = l ++ (0x80 ∷ replicate (127 - length l) 0)

  body_stored : set (put (replicate 128 0) 0 l) (length l) 0x80 ≡ body
  unfolding body
  body_stored =
      let all : 128 ≡ length l + suc (127 - length l) = omega arith in
      ap (λ (k : ℕ). set (put (replicate k 0) 0 l) (length l) 0x80) all ∙ marked l (127 - length l) 0x80

  body-length : length body ≡ 128
  unfolding body
  body-length = simp (length-append, length-replicate) (omega arith)

  -- before the last four bytes stand the message's last, the byte 0x80 and zeros: the gap's, and four of the length field's
  body_front : take (e - 4) body ≡ (l ++ (0x80 ∷ replicate (gap sha_256 n) 0)) ++ replicate 4 0
  unfolding body gap word_bytes chunk_bytes length_bytes sha_256
  body_front =
      let place : e - 4 ≡ length l + suc (gap sha_256 n + 4) = omega arith in
      ap (λ (k : ℕ). take k body) place ∙ take-append-add l (0x80 ∷ replicate (127 - length l) 0) (suc (gap sha_256 n + 4))
      ∙ ap (λ (z : List ℕ). l ++ (0x80 ∷ z))
      (take-replicate (gap sha_256 n + 4) (127 - length l) 0 (omega arith) ∙ sym (replicate-append-replicate (gap sha_256 n) 4 0))
      ∙ sym (append_assoc l (0x80 ∷ replicate (gap sha_256 n) 0) (replicate 4 0))

  pub ended_stored : take e (put (set (put (replicate 128 0) 0 l) (length l) 0x80) (e - 4) (bytes_of 4 (8 * n))) ≡ ended sha_256 l n
  unfolding ended word_bytes length_bytes sha_256
  ended_stored =
      let b : List ℕ = bytes_of 4 (8 * n) in
      let four : length b ≡ 4 = bytes_length 4 (8 * n) in
      let cut : e ≡ e - 4 + length b = omega arith in
      ap₂ (λ (z : List ℕ) (k : ℕ). take k (put z (e - 4) b)) body_stored cut
      ∙ take_put body (e - 4) b (omega (arith, body-length)) ∙ ap (λ (x : List ℕ). x ++ b) body_front
      ∙ append_assoc (l ++ (0x80 ∷ replicate (gap sha_256 n) 0)) (replicate 4 0) b
      ∙ ap (λ (z : List ℕ). (l ++ (0x80 ∷ replicate (gap sha_256 n) 0)) ++ z) (sym (bytes_small 4 4 (8 * n) (omega arith)))

-- a padded message, cut where its whole chunks end
module _ (m : List ℕ) (q : ℕ) (whole : q ≡ length m / 64) where
  pad : List ℕ
  pad = (0x80 ∷ replicate (gap sha_256 (length m)) 0) ++ bytes_of 8 (8 * length m)

  padded_is : padded sha_256 m ≡ m ++ pad
  unfolding padded word_bytes length_bytes sha_256 pad
  padded_is = append_assoc m (0x80 ∷ replicate (gap sha_256 (length m)) 0) (bytes_of 8 (8 * length m))

  pub padded_front : take (64 * q) (padded sha_256 m) ≡ take (64 * q) m
  padded_front = ap (take (64 * q)) padded_is ∙ take-append-le (64 * q) m pad (omega arith)

  pub padded_rest : drop (64 * q) (padded sha_256 m) ≡ ended sha_256 (drop (64 * q) m) (length m)
  unfolding ended word_bytes length_bytes sha_256 pad
  padded_rest =
      ap (drop (64 * q)) padded_is ∙ drop-append-le (64 * q) m pad (omega arith)
      ∙ sym (append_assoc (drop (64 * q) m) (0x80 ∷ replicate (gap sha_256 (length m)) 0) (bytes_of 8 (8 * length m)))

  pub padded_chunks : length (padded sha_256 m) / 64 ≡ q + (length m % 64 + 72) / 64
  unfolding gap word_bytes chunk_bytes length_bytes sha_256 pad
  padded_chunks =
      rw (padded_is) (simp (length-append, length-replicate, bytes_length) (omega arith))
