-- A law of the schedule: its length. Assumes nothing.
use Rattle.std.proofs.Common.{◌≡◌, ℕ, zero, suc, ◌+◌, List, [], ◌∷◌, length, sym, ap, ◌∙◌, add-zero, add-suc, add-one, length-append}
use Rattle.hash.specs.Family.{Family}
use Rattle.hash.specs.Schedule.{next_word, grown, schedule}

pub schedule-length : (F : Family) (M : List ℕ) (n : ℕ) → length M ≡ 16 → length (schedule F M n) ≡ 16 + n
unfolding grown schedule
schedule-length F M zero h = h ∙ sym (add-zero 16)
schedule-length F M (suc n) h =
    length-append (schedule F M n) (next_word F (schedule F M n) (16 + n) ∷ [])
    ∙ ap (λ (k : ℕ). k + 1) (schedule-length F M n h) ∙ add-one (16 + n) ∙ sym (add-suc 16 n)
