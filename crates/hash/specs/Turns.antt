-- How the library goes through the rounds. M-102: "Keep sixteen schedule words, overwriting the oldest." Word t stands in place t mod 16. A turn is
-- round t, and then word t + 16 in the place of word t; the last sixteen rounds read the words that are left. That this is the schedule and the
-- rounds of FIPS 180-4 is shown in `proofs/Ring.antt` and `proofs/Turns.antt`.
use Rattle.std.specs.Prelude.{ℕ, zero, suc, ◌+◌, ◌%◌, List, slice_index, slice_set}
use Rattle.hash.specs.declared.round.Working.{Working}
use Rattle.hash.specs.Words.{plus}
use Rattle.hash.specs.Family.{Family}
use Rattle.hash.specs.Rounds.{Eight, round}

-- the code's working variables as those of the standard
abbrev pub eight : Working → Eight
eight s = record { a = s.a; b = s.b; c = s.c; d = s.d; e = s.e; f = s.f; g = s.g; h = s.h }

-- the schedule's area and the working variables
pub record Stage : Type 0 where
  pub area : List ℕ
  pub state : Eight

abbrev pub stage : List ℕ → Working → Stage
stage w s = record { area = w; state = eight s }

-- W_{t+16} = σ₁(W_{t+14}) + W_{t+9} + σ₀(W_{t+1}) + W_t, from the words in the places of R
unfoldable pub word_after : Family → List ℕ → ℕ → ℕ
word_after F R t =
    plus F.width
    (plus F.width (plus F.width (F.σ₁ (slice_index R ((t + 14) % 16))) (slice_index R ((t + 9) % 16))) (F.σ₀ (slice_index R ((t + 1) % 16))))
    (slice_index R (t % 16))

-- round t, with the word in its place
unfoldable pub reads : Family → List ℕ → Eight → ℕ → Eight
reads F R s t = round F s (slice_index F.K t) (slice_index R (t % 16))

-- round t reads word t, and word t + 16 goes into its place
unfoldable pub turn : Family → Stage → ℕ → Stage
turn F x t =
    record {
      area = slice_set x.area (t % 16) (word_after F x.area t);
      state = reads F x.area x.state t;
    }

-- n steps from t on
unfoldable pub steps : {A : Type 0} → (A → ℕ → A) → A → ℕ → ℕ → A
steps f x t zero = x
steps f x t (suc n) = f (steps f x t n) (t + n)
