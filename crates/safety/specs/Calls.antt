-- A keeper's calls with their arguments, each by its rule, and the statements that a call returns for signing. 01, "Calls": "The chip signs once each
-- statement that Initialise, New, Append, Read, Append and read or Finalise gives, and none that Bytes to check gives." And 02, M-100, Append many: "Heights
-- in between are signed by nobody; demand 3 reads as before."
use Rattle.std.specs.Prelude.{Bool, true, false, not, cond, ◌&&◌, List, [], ◌∷◌, ℕ, length, take, drop, eqb}
use Rattle.refusals.specs.{accepted}
use Rattle.statement.specs.Kinds.{digest_bytes, label_bytes, receipt_size, reading_size, handover_size}
use Rattle.rules.specs.declared.Head.{Head}
use Rattle.rules.specs.declared.Answer.{Answer}
use Rattle.rules.specs.Outcomes.{Lent, Outcome}
use Rattle.rules.specs.Wake.{waking}
use Rattle.rules.specs.Initialise.{initialising}
use Rattle.rules.specs.New.{making}
use Rattle.rules.specs.Append.{appending}
use Rattle.rules.specs.AppendMany.{appending_many}
use Rattle.rules.specs.Read.{reading, appending_and_reading}
use Rattle.rules.specs.Finalise.{finalising}
use Rattle.rules.specs.Activate.{activating}
use Rattle.rules.specs.Check.{checking}

-- a keeper's record
pub record Keeper : Type 0 where
  pub head : Head
  pub table : List ℕ

-- "with any arguments" and any output area; Wake's key is the keeper's own
pub data Call : Type 0 where
  Wake : Call
  Initialise : (identity roll previous own area : List ℕ) → Call
  New : (label area : List ℕ) → Call
  Append : (label entry : List ℕ) (expected : ℕ) (area : List ℕ) → Call
  AppendMany : (label list : List ℕ) (expected : ℕ) (area : List ℕ) → Call
  Read : (label nonce area : List ℕ) → Call
  AppendAndRead : (label entry : List ℕ) (expected : ℕ) (nonce area : List ℕ) → Call
  Finalise : (next area : List ℕ) → Call
  Activate : (previous own bundle : List ℕ) → Call
  BytesToCheck : (previous own bundle : List ℕ) (list entry : ℕ) (area : List ℕ) → Call

abbrev pub lent : Keeper → List ℕ → Lent
lent k area = record { head = k.head; table = k.table; area = area }

-- the outcome of a call at a keeper with a key
unfoldable pub outcome_of : List ℕ → Keeper → Call → Outcome
outcome_of key k Wake = waking (lent k []) key
outcome_of key k (Initialise identity roll previous own area) = initialising (lent k area) identity roll previous own
outcome_of key k (New label area) = making (lent k area) label
outcome_of key k (Append label entry expected area) = appending (lent k area) label entry expected
outcome_of key k (AppendMany label list expected area) = appending_many (lent k area) label list expected
outcome_of key k (Read label nonce area) = reading (lent k area) label nonce
outcome_of key k (AppendAndRead label entry expected nonce area) = appending_and_reading (lent k area) label entry expected nonce
outcome_of key k (Finalise next area) = finalising (lent k area) next
outcome_of key k (Activate previous own bundle) = activating (lent k []) previous own bundle
outcome_of key k (BytesToCheck previous own bundle list entry area) = checking (lent k area) previous own bundle list entry

-- the record afterwards
unfoldable pub left_by : List ℕ → Keeper → Call → Keeper
left_by key k call = record { head = (outcome_of key k call).left.head; table = (outcome_of key k call).left.table }

unfoldable pub accepts : List ℕ → Keeper → Call → Bool
accepts key k call = eqb (outcome_of key k call).answer.number accepted

-- the statements that lie in the output area of a call: the first bytes, and behind an append's statement the read's
unfoldable pub statements_in : Call → List ℕ → List (List ℕ)
statements_in Wake area = []
statements_in (Initialise identity roll previous own area₀) area = take handover_size area ∷ []
statements_in (New label area₀) area = take receipt_size area ∷ []
statements_in (Append label entry expected area₀) area = take receipt_size area ∷ []
statements_in (AppendMany label list expected area₀) area = take receipt_size area ∷ []
statements_in (Read label nonce area₀) area = take reading_size area ∷ []
statements_in (AppendAndRead label entry expected nonce area₀) area =
    take receipt_size area ∷ take reading_size (drop receipt_size area) ∷ []
statements_in (Finalise next area₀) area = take handover_size area ∷ []
statements_in (Activate previous own bundle) area = []
statements_in (BytesToCheck previous own bundle list entry area₀) area = []

-- those that a call returned for signing: an accepted call's, and none of a repeat, "with nothing to sign"
unfoldable pub for_signing : List ℕ → Keeper → Call → List (List ℕ)
for_signing key k call =
    cond (accepts key k call && not (outcome_of key k call).answer.repeat)
    (statements_in call (outcome_of key k call).left.area)
    []

unfoldable pub is_wake : Call → Bool
is_wake Wake = true
is_wake (Initialise identity roll previous own area) = false
is_wake (New label area) = false
is_wake (Append label entry expected area) = false
is_wake (AppendMany label list expected area) = false
is_wake (Read label nonce area) = false
is_wake (AppendAndRead label entry expected nonce area) = false
is_wake (Finalise next area) = false
is_wake (Activate previous own bundle) = false
is_wake (BytesToCheck previous own bundle list entry area) = false

-- "Keys, digests, labels and nonces are taken at their fixed sizes." It is asked of identities and labels alone.
unfoldable pub sized : Call → Bool
sized Wake = true
sized (Initialise identity roll previous own area) = eqb (length identity) digest_bytes
sized (New label area) = eqb (length label) label_bytes
sized (Append label entry expected area) = eqb (length label) label_bytes
sized (AppendMany label list expected area) = eqb (length label) label_bytes
sized (Read label nonce area) = eqb (length label) label_bytes
sized (AppendAndRead label entry expected nonce area) = eqb (length label) label_bytes
sized (Finalise next area) = true
sized (Activate previous own bundle) = true
sized (BytesToCheck previous own bundle list entry area) = true
