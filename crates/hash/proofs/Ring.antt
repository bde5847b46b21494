-- Sixteen words of the schedule suffice: word t in place t mod 16, and the oldest overwritten by the word to come. Assumes nothing.
use Rattle.std.proofs.Common.{◌≡◌, ℕ, suc, ◌+◌, ◌-◌, ◌%◌, ◌<◌, ◌≤◌, List, [], ◌∷◌, length, get_or, set, sym, ap, ◌∙◌, ⊎_elim, add-zero, eq-or-lt_of_le, arith, length-set, get_or-set_other, get_or-set_same}
use lib.ListN.{get_or-append}
use lib.Seq.{get_or_at}
use Rattle.hash.specs.Family.{Family}
use Rattle.hash.specs.Schedule.{next_word, grown, schedule}
use Rattle.hash.specs.Turns.{word_after}
use Rattle.hash.proofs.Schedule.{schedule-length}

-- sixteen places that hold the words n to n + 15 of the schedule, each in its place
pub record Held (F : Family) (M R : List ℕ) (n : ℕ) : Type 0 where
  pub room : length R ≡ 16
  pub held : (i : ℕ) → i < 16 → get_or R ((n + i) % 16) 0 ≡ get_or (schedule F M n) (n + i) 0

module _ (F : Family) (M : List ℕ) (sixteen : length M ≡ 16) where
  -- the chunk's words stand in their places
  pub held_first : Held F M M 0
  unfolding schedule
  held_first = record { room = sixteen; held = λ i h. let e : (0 + i) % 16 ≡ 0 + i = omega arith in ap (λ (j : ℕ). get_or M j 0) e }

  module _ (R : List ℕ) (n : ℕ) (r : Held F M R n) where
    abbrev S : List ℕ
    S = schedule F M n

    long : length S ≡ 16 + n
    long = schedule-length F M n sixteen

    -- the word in the place of word n
    pub now_held : get_or R (n % 16) 0 ≡ get_or S n 0
    now_held =
        ap (λ (j : ℕ). get_or R (j % 16) 0) (sym (add-zero n)) ∙ r.held 0 (omega arith) ∙ ap (λ (j : ℕ). get_or (schedule F M n) j 0) (add-zero n)

    back : (i k : ℕ) → i < 16 → 16 + n - k ≡ n + i → get_or R ((n + i) % 16) 0 ≡ get_or S (16 + n - k) 0
    back i k h e = r.held i h ∙ ap (λ (j : ℕ). get_or (schedule F M n) j 0) (sym e)

    -- the next word is worked out from the sixteen alone
    pub word_held : word_after F R n ≡ next_word F S (16 + n)
    unfolding word_after next_word
    word_held =
        let last : get_or R (n % 16) 0 ≡ get_or S (16 + n - 16) 0 = now_held ∙ ap (λ (j : ℕ). get_or S j 0) (omega arith) in
        rw (back 14 2 (omega arith) (omega arith), back 9 7 (omega arith) (omega arith), back 1 15 (omega arith) (omega arith), last)

    pub grown_before : (j : ℕ) → j < 16 + n → get_or S j 0 ≡ get_or (schedule F M (suc n)) j 0
    unfolding grown schedule
    grown_before j h = sym (get_or-append S (next_word F S (16 + n) ∷ []) 0 j (omega (arith, long)))

    below : (i : ℕ) → i < 16 → i ≤ 15
    below i h = omega arith

    -- the oldest is overwritten, and the sixteen after it stand in their places
    pub held_next : Held F M (set R (n % 16) (word_after F R n)) (suc n)
    unfolding grown schedule
    held_next =
        let v : ℕ = word_after F R n in
        record {
          room = length-set R (n % 16) v ∙ r.room;
          held =
              λ i h.
              ⊎_elim
              (λ e.
              let place : (suc n + i) % 16 ≡ n % 16 = omega arith in
              ap (λ (j : ℕ). get_or (set R (n % 16) v) j 0) place ∙ get_or-set_same R (n % 16) v 0 (omega (arith, r.room)) ∙ word_held
              ∙ sym (get_or_at S (next_word F S (16 + n)) [] 0 (suc n + i) (omega (arith, long))))
              (λ l.
              let on : suc n + i ≡ n + suc i = omega arith in
              get_or-set_other R (n % 16) ((suc n + i) % 16) v 0 (λ e. omega arith)
              ∙ ap (λ (j : ℕ). get_or R (j % 16) 0) on ∙ r.held (suc i) (omega arith)
              ∙ ap (λ (j : ℕ). get_or S j 0) (sym on) ∙ grown_before (suc n + i) (omega arith))
              (eq-or-lt_of_le (below i h));
        }
