-- FIPS 180-4, 6.2.2 and 6.4.2, step 1: the message schedule.
use Rattle.std.specs.Prelude.{ℕ, zero, suc, ◌+◌, ◌-◌, List, [], ◌∷◌, ◌++◌, slice_index}
use Rattle.hash.specs.Words.{plus}
use Rattle.hash.specs.Family.{Family}

-- W_t = σ₁(W_{t-2}) + W_{t-7} + σ₀(W_{t-15}) + W_{t-16}, from the words W before t
unfoldable pub next_word : Family → List ℕ → ℕ → ℕ
next_word F W t =
    plus F.width
    (plus F.width (plus F.width (F.σ₁ (slice_index W (t - 2))) (slice_index W (t - 7))) (F.σ₀ (slice_index W (t - 15))))
    (slice_index W (t - 16))

-- the words W_0 to W_{t-1}, with W_t after them
unfoldable pub grown : Family → List ℕ → ℕ → List ℕ
grown F W t = W ++ (next_word F W t ∷ [])

-- the schedule with n words past the sixteen of the chunk M: W_t = M_t for t below 16
unfoldable pub schedule : Family → List ℕ → ℕ → List ℕ
schedule F M zero = M
schedule F M (suc n) = grown F (schedule F M n) (16 + n)
