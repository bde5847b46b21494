-- Laws of the answer of a refused append: what the search for the ledger leaves to the tests of the heights, and what a call tells that hands it on.
-- Assumes nothing.
use mathlib.Core.Path.{◌≡◌, refl, sym, ap, ap₂, ◌∙◌}
use mathlib.Core.Bool.{false}
use mathlib.Core.List.{List}
use Prim.Native.Nat.{ℕ}
use Rattle.std.specs.Prelude.{Result, Ok, Err}
use Rattle.std.specs.Result.{IsErrAnd}
use lib.Dec.{eqb}
use Rattle.refusals.specs.{accepted, out_of_order}
use Rattle.refusals.specs.declared.Refusal.{Refusal}
use Rattle.refusals.specs.Order.{first}
use Rattle.refusals.specs.Refused.{refusal_number}
use Rattle.refusals.proofs.Answered.{number_refuses}
use Rattle.refusals.proofs.Orders.{numbered, stops, goes_on, lacks, lacking}
use Rattle.rules.specs.declared.Answer.{Answer}
use Rattle.rules.specs.Told.{Told}
use Rattle.rules.specs.Outcomes.{Lent, Outcome, outcome, refusing, told_place, unless, lending, readiness}
use Rattle.rules.specs.Rows.{present_height}
use Rattle.rules.specs.Append.{append_refusal}
use Rattle.rules.proofs.Tolds.{handed_on, refusing_alone}
use Rattle.ledgers.specs.Tests.{found}
use Rattle.ledgers.proofs.Given.{refuses}
use Rattle.appending.specs.Tests.{ordered, append_told}

module _ (size : ℕ) (k : Lent) (label : List ℕ) (expected n : ℕ) (e : n ≡ first (found size k label)) where
  unfound_append : (n ≡ accepted → ⊥) → append_refusal size k label expected ≡ n
  unfolding readiness lending numbered append_refusal
  unfound_append refuses = stops (found size k label) (ordered expected (present_height k label)) n refl e refuses ∙ sym e

  pub found_append : n ≡ accepted → append_refusal size k label expected ≡ first (ordered expected (present_height k label))
  unfolding readiness lending numbered append_refusal
  found_append accepts = goes_on (found size k label) (ordered expected (present_height k label)) n refl e accepts

  other : eqb n out_of_order ≡ false
  unfolding readiness lending lacks
  other = ap (λ (m : ℕ). eqb m out_of_order) e ∙ lacking out_of_order (found size k label) refl

  -- before the tests of the heights a refusal shows no height
  pub unfound_answer : (height : ℕ) → (n ≡ accepted → ⊥) → refusing n 0 ≡ refusing (append_refusal size k label expected) height
  unfound_answer height refuses = rw (unfound_append refuses, other)

module _ (size : ℕ) (k : Lent) (label : List ℕ) (expected : ℕ) where
  -- a refusal of the search
  pub unfound_told : (r : Refusal) → refusal_number r ≡ first (found size k label) → told_place k.head 0 (Err r) ≡ append_told size k label expected
  unfound_told r e =
      let same = unfound_append size k label expected (refusal_number r) e (number_refuses r) in
      ap (λ (x : Answer). record { answer = x; head = k.head })
      (refusing_alone r _ (present_height k label) (sym same) (ap (λ (m : ℕ). eqb m out_of_order) same ∙ other size k label expected (refusal_number r) e))

  -- a found ledger leaves the answer to the heights
  pub found_told :
      (h n : ℕ) → h ≡ present_height k label → accepted ≡ first (found size k label) → first (ordered expected h) ≡ n
      → ◌≡◌ {A = Told} (record { answer = refusing n h; head = k.head }) (append_told size k label expected)
  found_told h n p e f =
      ap₂ (λ (m g : ℕ). record { answer = refusing m g; head = k.head })
      (sym f ∙ ap (λ (g : ℕ). first (ordered expected g)) p ∙ sym (found_append size k label expected accepted e refl)) p

  -- what the answer of a refused append says of it, and of one that nothing refuses
  pub told_number : (i : ℕ) → told_place k.head 0 (Ok i) ≡ append_told size k label expected → append_refusal size k label expected ≡ accepted
  told_number i e = sym (ap (λ (t : Told). t.answer.number) e)

  pub hands_on :
      (written : ℕ) (q : Result ℕ Refusal) (r : Refusal) (effect : Outcome) → IsErrAnd q (λ y. y ≡ r)
      → told_place k.head 0 (Err r) ≡ append_told size k label expected
      → outcome (told_place k.head written q) k.table k.area ≡ unless (append_refusal size k label expected) (present_height k label) k effect
  hands_on written q r effect h e =
      ap (λ (x : Result ℕ Refusal). outcome (told_place k.head written x) k.table k.area) (handed_on q r h)
      ∙ refuses k _ _ (told_place k.head written (Err r)) effect (λ z. number_refuses r (ap (λ (t : Told). t.answer.number) e ∙ z)) e
