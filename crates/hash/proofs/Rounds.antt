-- A law of the rounds: n rounds read n words. Assumes nothing.
use Rattle.std.proofs.Common.{◌≡◌, ℕ, zero, suc, ◌<◌, List, get_or, refl, ap₂, lt_trans, lt-suc_self}
use Rattle.hash.specs.Family.{Family}
use Rattle.hash.specs.Rounds.{Eight, round, rounds}

-- schedules that agree on the first n words lead n rounds to the same variables
pub rounds_agree :
    (F : Family) (W X : List ℕ) (s : Eight) (n : ℕ) → ((i : ℕ) → i < n → get_or W i 0 ≡ get_or X i 0)
    → rounds F W s n ≡ rounds F X s n
unfolding rounds
rounds_agree F W X s zero h = refl
rounds_agree F W X s (suc n) h =
    ap₂ (λ (x : Eight) (w : ℕ). round F x (get_or F.K n 0) w)
    (rounds_agree F W X s n (λ i k. h i (lt_trans k (lt-suc_self n)))) (h n (lt-suc_self n))
