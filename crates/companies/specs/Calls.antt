-- The calls on ledgers. 02, M-108: "one company's New, Append and Read calls", and so Append many and Append and read.
use Rattle.std.specs.Prelude.{List, [], ℕ}
use Rattle.rules.specs.declared.Answer.{Answer}
use Rattle.safety.specs.Calls.{Keeper, Call, outcome_of, left_by}
use Rattle.safety.specs.Calls as calls

-- what is asked of a ledger
pub data Act : Type 0 where
  New : Act
  Append : (entry : List ℕ) (expected : ℕ) → Act
  AppendMany : (list : List ℕ) (expected : ℕ) → Act
  Read : (nonce : List ℕ) → Act
  AppendAndRead : (entry : List ℕ) (expected : ℕ) (nonce : List ℕ) → Act

-- a call on the ledger of a label, with any arguments and any output area
pub record Asking : Type 0 where
  pub label : List ℕ
  pub act : Act
  pub area : List ℕ

unfoldable pub as_call : Act → List ℕ → List ℕ → Call
as_call New label area = calls.New label area
as_call (Append entry expected) label area = calls.Append label entry expected area
as_call (AppendMany list expected) label area = calls.AppendMany label list expected area
as_call (Read nonce) label area = calls.Read label nonce area
as_call (AppendAndRead entry expected nonce) label area = calls.AppendAndRead label entry expected nonce area

abbrev pub call_of : Asking → Call
call_of a = as_call a.act a.label a.area

-- what a call tells, of which label: "the same answers", and the bytes of the output area
pub record Reply : Type 0 where
  pub label : List ℕ
  pub answer : Answer
  pub area : List ℕ

-- by the rules; none of these calls goes by the keeper's key
unfoldable pub told : Keeper → Asking → Reply
told k a = record { label = a.label; answer = (outcome_of [] k (call_of a)).answer; area = (outcome_of [] k (call_of a)).left.area }

unfoldable pub left : Keeper → Asking → Keeper
left k a = left_by [] k (call_of a)
