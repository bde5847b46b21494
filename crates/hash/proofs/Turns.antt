-- Turns, and the last rounds after them, are the rounds of the standard. Assumes nothing.
use Rattle.std.proofs.Common.{◌≡◌, ℕ, zero, suc, ◌+◌, ◌≤◌, List, length, get_or, sym, refl, ap, ◌∙◌, ap₂, add-zero, add-suc, add_comm, zero-add, arith}
use Rattle.hash.specs.Family.{Family}
use Rattle.hash.specs.Schedule.{schedule}
use Rattle.hash.specs.Rounds.{Eight, initial, round, rounds, summed, compressed}
use Rattle.hash.specs.Turns.{Stage, reads, turn, steps}
use Rattle.hash.proofs.Ring.{Held, held_first, now_held, grown_before, held_next}
use Rattle.hash.proofs.Rounds.{rounds_agree}

module _ (F : Family) (M : List ℕ) (sixteen : length M ≡ 16) (s : Eight) where
  -- the chunk's words and the working variables after n turns
  turned : ℕ → Stage
  turned n = steps (turn F) (record { area = M; state = s }) 0 n

  -- what n turns have come to
  record Reached (n : ℕ) : Type 0 where
    holds : Held F M (turned n).area n
    state : (turned n).state ≡ rounds F (schedule F M n) s n

  turned_next : (n : ℕ) → turned (suc n) ≡ turn F (turned n) n
  unfolding turned steps
  turned_next n = ap (turn F (turned n)) (zero-add n)

  first : Reached 0
  unfolding turned steps rounds
  first = record { holds = held_first F M sixteen; state = refl }

  more : (n : ℕ) → Reached n → Reached (suc n)
  unfolding reads turn rounds
  more n r =
      let x : Stage = turned n in
      let same : rounds F (schedule F M n) s n ≡ rounds F (schedule F M (suc n)) s n =
      rounds_agree F (schedule F M n) (schedule F M (suc n)) s n (λ i h. grown_before F M sixteen x.area n r.holds i (omega arith)) in
      record {
        holds = rw (turned_next n) (held_next F M sixteen x.area n r.holds);
        state =
            ap (λ (y : Stage). y.state) (turned_next n)
            ∙ ap₂ (λ (y : Eight) (w : ℕ). round F y (get_or F.K n 0) w) (r.state ∙ same)
            (now_held F M sixteen x.area n r.holds ∙ grown_before F M sixteen x.area n r.holds n (omega arith));
      }

  reached : (n : ℕ) → Reached n
  reached zero = first
  reached (suc n) = more n (reached n)

  -- rounds that read a ring which holds their words
  rounds-held :
      (R : List ℕ) (n m : ℕ) → Held F M R n → m ≤ 16
      → steps (reads F R) (rounds F (schedule F M n) s n) n m ≡ rounds F (schedule F M n) s (n + m)
  unfolding reads steps rounds
  rounds-held R n zero r h = ap (rounds F (schedule F M n) s) (sym (add-zero n))
  rounds-held R n (suc m) r h =
      ap₂ (λ (y : Eight) (w : ℕ). round F y (get_or F.K (n + m) 0) w) (rounds-held R n m r (omega arith)) (r.held m (omega arith))
      ∙ ap (rounds F (schedule F M n) s) (sym (add-suc n m))

  -- the hash value after the chunk is the sum with the state after the turns and the last rounds
  pub compressed_by :
      (H : List ℕ) (x : Stage) (y : Eight) → s ≡ initial H → x ≡ steps (turn F) (record { area = M; state = s }) 0 F.further
      → y ≡ steps (reads F x.area) x.state F.further 16 → summed F H y ≡ compressed F H M
  unfolding compressed turned
  compressed_by H x y e p q =
      let n : ℕ = F.further in
      let W : List ℕ = schedule F M n in
      let r : Reached n = reached n in
      ap (summed F H)
      (q ∙ ap (λ (z : Stage). steps (reads F z.area) z.state n 16) p
      ∙ ap (λ (z : Eight). steps (reads F (turned n).area) z n 16) r.state
      ∙ rounds-held (turned n).area n 16 r.holds (omega arith)
      ∙ ap₂ (λ (z : Eight) (k : ℕ). rounds F W z k) e (add_comm n 16))
