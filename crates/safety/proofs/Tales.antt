-- A history told by its views: what each call said, and that each call and verdict is as the views say. Assumes nothing.
use mathlib.Core.Path.{◌≡◌}
use mathlib.Core.Bool.{true, false}
use mathlib.Core.List.{List, [], ◌∷◌, map}
use Prim.Native.Nat.{ℕ}
use Rattle.refusals.specs.{accepted}
use Rattle.statement.specs.declared.Statement.{Statement}
use Rattle.statement.specs.Cut.{cut_statement}
use Rattle.desk.specs.Verdict.{Question, judging}
use Rattle.safety.specs.Calls.{Keeper, Call, left_by, for_signing}
use Rattle.safety.specs.Histories.{Event, At, Judged, keeper_after, called, ◌∈◌}
use Rattle.safety.specs.Hashed.{hashed_at}
use Rattle.safety.proofs.Views.{View, Waking, Vouched}

-- what a call returned for signing, taken apart
abbrev pub says : List ℕ → Keeper → Call → List Statement
says key k call = map cut_statement (for_signing key k call)

-- the keeper with a key had said this
pub data Said (start : List ℕ → Keeper) (key : List ℕ) (v : Statement) : List Event → Type 0 where
  now_said : {call : Call} {h : List Event} → v ∈ says key (keeper_after start h key) call → Said start key v (At key call ∷ h)
  before_said : {e : Event} {h : List Event} → Said start key v h → Said start key v (e ∷ h)

-- a call seen as one of the views, after a history
abbrev pub SeenAs : (List ℕ → Keeper) → List Event → List ℕ → Call → Type 0
SeenAs start h key call =
    View (λ s. s ∈ hashed_at start h (At key call)) (λ other v. Said start other v h)
    (keeper_after start h key) (left_by key (keeper_after start h key) call) (says key (keeper_after start h key) call)

pub data Tale (start : List ℕ → Keeper) : List Event → Type 0 where
  begun : Tale start []
  woken : {key : List ℕ} {call : Call} {h : List Event} → called key h ≡ false
      → Waking (left_by key (keeper_after start h key) call) (says key (keeper_after start h key) call) → Tale start h → Tale start (At key call ∷ h)
  acted : {key : List ℕ} {call : Call} {h : List Event} → called key h ≡ true → SeenAs start h key call → Tale start h → Tale start (At key call ∷ h)
  judged : {q : Question} {s signers : List ℕ} {h : List Event}
      → ((judging q s signers).number ≡ accepted → Vouched (λ t. t ∈ hashed_at start h (Judged q s signers)) (λ key v. Said start key v h) (cut_statement s))
      → Tale start h → Tale start (Judged q s signers ∷ h)

-- an accepted verdict on a statement in a history
pub record VerdictOn (h : List Event) (v : Statement) : Type 0 where
  pub question : Question
  pub statement : List ℕ
  pub signers : List ℕ
  pub judged_in : Judged question statement signers ∈ h
  pub accepts : (judging question statement signers).number ≡ accepted
  pub cut : cut_statement statement ≡ v
