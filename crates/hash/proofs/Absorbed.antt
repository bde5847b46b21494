-- Laws of the hash value after chunks: it goes on from chunk to chunk, and the first chunks are all that it reads. Assumes nothing.
use Rattle.std.proofs.Common.{◌≡◌, ℕ, zero, suc, ◌+◌, ◌*◌, ◌≤◌, List, ◌++◌, length, take, drop, sym, refl, ap, ◌∙◌, ap₂, le-add_right, add-zero, add-suc, mul-suc, mul-add, add-one, take-take, drop-drop}
use lib.Seq.{take_at, drop_at}
use Rattle.octets.proofs.Parts.{drop-take}
use Rattle.hash.specs.Family.{Family, word_bytes, chunk_bytes}
use Rattle.hash.specs.Padding.{words, chunk}
use Rattle.hash.specs.Rounds.{compressed}
use Rattle.hash.specs.Digest.{absorbed}

pub absorbed_more :
    (F : Family) (H s : List ℕ) (n : ℕ) → absorbed F H s (n + 1) ≡ compressed F (absorbed F H s n) (chunk F s n)
unfolding absorbed
absorbed_more F H s n = rw (add-one n)

-- chunk n of what follows q chunks is chunk q + n
chunk_after : (F : Family) (s : List ℕ) (q n : ℕ) → chunk F s (q + n) ≡ chunk F (drop (chunk_bytes F * q) s) n
unfolding chunk
chunk_after F s q n =
    ap (λ (l : List ℕ). words (word_bytes F) (take (chunk_bytes F) l) 16)
    (ap (λ (k : ℕ). drop k s) (mul-add (chunk_bytes F) q n) ∙ sym (drop-drop (chunk_bytes F * n) (chunk_bytes F * q) s))

pub absorbed_after :
    (F : Family) (H s : List ℕ) (q n : ℕ)
    → absorbed F H s (q + n) ≡ absorbed F (absorbed F H s q) (drop (chunk_bytes F * q) s) n
unfolding absorbed
absorbed_after F H s q zero = ap (absorbed F H s) (add-zero q)
absorbed_after F H s q (suc n) = rw (add-suc q n) (ap₂ (compressed F) (absorbed_after F H s q n) (chunk_after F s q n))

-- strings that agree on the first n + 1 chunks have the same chunk n
chunk_agree :
    (F : Family) (s t : List ℕ) (n : ℕ) → take (chunk_bytes F * suc n) s ≡ take (chunk_bytes F * suc n) t
    → chunk F s n ≡ chunk F t n
unfolding chunk
chunk_agree F s t n h =
    let k : ℕ = chunk_bytes F * n in
    let g : take (k + chunk_bytes F) s ≡ take (k + chunk_bytes F) t = rw (mul-suc (chunk_bytes F) n) at h in
    ap (λ (l : List ℕ). words (word_bytes F) l 16)
    (sym (drop-take k (chunk_bytes F) s) ∙ ap (drop k) g ∙ drop-take k (chunk_bytes F) t)

pub absorbed_agree :
    (F : Family) (H s t : List ℕ) (n : ℕ) → take (chunk_bytes F * n) s ≡ take (chunk_bytes F * n) t
    → absorbed F H s n ≡ absorbed F H t n
unfolding absorbed
absorbed_agree F H s t zero h = refl
absorbed_agree F H s t (suc n) h =
    let k : chunk_bytes F * n ≤ chunk_bytes F * suc n = rw (mul-suc (chunk_bytes F) n) (le-add_right (chunk_bytes F * n) (chunk_bytes F)) in
    let g : take (chunk_bytes F * n) s ≡ take (chunk_bytes F * n) t =
    sym (take-take (chunk_bytes F * n) (chunk_bytes F * suc n) s k) ∙ ap (take (chunk_bytes F * n)) h
    ∙ take-take (chunk_bytes F * n) (chunk_bytes F * suc n) t k in
    ap₂ (compressed F) (absorbed_agree F H s t n g) (chunk_agree F s t n h)

-- a chunk more from the front of what is left of a string
module _
    (F : Family) (H s rest part left : List ℕ) (n : ℕ) (at : rest ≡ drop (chunk_bytes F * n) s)
    (cut : rest ≡ part ++ left) (whole : length part ≡ chunk_bytes F) where
  pub absorbed_part : compressed F (absorbed F H s n) (words (word_bytes F) part 16) ≡ absorbed F H s (n + 1)
  unfolding chunk
  absorbed_part =
      let first : part ≡ take (chunk_bytes F) (drop (chunk_bytes F * n) s) =
      sym (take_at part left (chunk_bytes F) whole) ∙ ap (take (chunk_bytes F)) (sym cut ∙ at) in
      ap (λ (l : List ℕ). compressed F (absorbed F H s n) (words (word_bytes F) l 16)) first ∙ sym (absorbed_more F H s n)

  pub left_part : left ≡ drop (chunk_bytes F * (n + 1)) s
  left_part =
      sym (drop_at part left (chunk_bytes F) whole) ∙ ap (drop (chunk_bytes F)) (sym cut ∙ at) ∙ drop-drop (chunk_bytes F) (chunk_bytes F * n) s
      ∙ ap (λ (k : ℕ). drop k s) (rw (add-one n) (sym (mul-suc (chunk_bytes F) n)))
