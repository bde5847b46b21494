-- Demand 3: "Then two accepted verdicts with one identity, ledger and height name the same tail, across any handovers."
use Rattle.std.specs.Prelude.{◌≡◌, true, List, ℕ}
use Rattle.refusals.specs.{accepted}
use Rattle.desk.specs.declared.Finding.{Finding}
use Rattle.desk.specs.Verdict.{Question, judging}
use Rattle.safety.specs.Calls.{Keeper}
use Rattle.safety.specs.Histories.{Event, Judged, orderly, ◌∈◌}
use Rattle.safety.specs.Chip.{HonestChip}
use Rattle.safety.specs.Hashed.{ToldApart}

-- an accepted verdict of a history
pub record Accepted (h : List Event) (identity label : List ℕ) (height : ℕ) (tail : List ℕ) : Type 0 where
  pub question : Question
  pub statement : List ℕ
  pub signers : List ℕ
  pub judged : Judged question statement signers ∈ h
  pub accepts : (judging question statement signers).number ≡ accepted
  pub identity_is : question.identity ≡ identity
  pub label_is : question.label ≡ label
  pub height_is : (judging question statement signers).height ≡ height
  pub tail_is : (judging question statement signers).tail ≡ tail

abbrev pub Demand3 : Type 0
Demand3 =
    (keepers : List (List ℕ)) (start : List ℕ → Keeper) (h : List Event)
    → orderly start h ≡ true
    → HonestChip keepers start h
    → ToldApart start h
    → (identity label : List ℕ) (height : ℕ) (t u : List ℕ)
    → Accepted h identity label height t
    → Accepted h identity label height u
    → t ≡ u
