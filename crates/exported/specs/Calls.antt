-- What an exported call answers and leaves, and the statements that lie in the program's area for signing. Each line of `held_by` is the right side of the
-- call's own `ensures`, in `keeper/src/waking.rt`, `thin.rt`, `many.rt` and `succession/src/passing.rt`, `finalising.rt`, `activating.rt`.
use Rattle.std.specs.Prelude.{Bool, not, cond, ◌&&◌, List, [], ℕ, eqb}
use Rattle.refusals.specs.{accepted}
use Rattle.rules.specs.declared.Head.{Head}
use Rattle.rules.specs.declared.Answer.{Answer}
use Rattle.rules.specs.Wake.{waking}
use Rattle.rules.specs.Initialise.{initialising}
use Rattle.rules.specs.New.{making}
use Rattle.rules.specs.Append.{appending}
use Rattle.rules.specs.AppendMany.{appending_many}
use Rattle.rules.specs.Read.{reading, appending_and_reading}
use Rattle.rules.specs.Finalise.{finalising}
use Rattle.rules.specs.Activate.{activating}
use Rattle.rules.specs.Check.{checking}
use Rattle.table.specs.declared.Row.{Row}
use Rattle.table.specs.Flat.{flattened}
use Rattle.table.specs.Held.{Held, over_rows}
use Rattle.safety.specs.Calls.{Keeper, Call, Wake, Initialise, New, Append, AppendMany, Read, AppendAndRead, Finalise, Activate, BytesToCheck, statements_in}

-- what a program keeps for a keeper and lends to each call: a head, and rows, which may be any number
pub record Box : Type 0 where
  pub head : Head
  pub rows : List Row

-- the answer, and the head, the rows and the area as they are afterwards; Wake's key is the keeper's own
unfoldable pub held_by : List ℕ → Box → Call → Held
held_by key b Wake = over_rows (λ k. waking k key) b.head b.rows []
held_by key b (Initialise identity roll previous own area) = over_rows (λ k. initialising k identity roll previous own) b.head b.rows area
held_by key b (New label area) = over_rows (λ k. making k label) b.head b.rows area
held_by key b (Append label entry expected area) = over_rows (λ k. appending k label entry expected) b.head b.rows area
held_by key b (AppendMany label list expected area) = over_rows (λ k. appending_many k label list expected) b.head b.rows area
held_by key b (Read label nonce area) = over_rows (λ k. reading k label nonce) b.head b.rows area
held_by key b (AppendAndRead label entry expected nonce area) =
    over_rows (λ k. appending_and_reading k label entry expected nonce) b.head b.rows area
held_by key b (Finalise next area) = over_rows (λ k. finalising k next) b.head b.rows area
held_by key b (Activate previous own bundle) = over_rows (λ k. activating k previous own bundle) b.head b.rows []
held_by key b (BytesToCheck previous own bundle list entry area) =
    over_rows (λ k. checking k previous own bundle list entry) b.head b.rows area

unfoldable pub left_by : List ℕ → Box → Call → Box
left_by key b call = record { head = (held_by key b call).head; rows = (held_by key b call).rows }

-- the answer is 0
unfoldable pub accepts : List ℕ → Box → Call → Bool
accepts key b call = eqb (held_by key b call).answer.number accepted

-- the statements in the area after an answer of 0 that is no repeat, "with nothing to sign"
unfoldable pub for_signing : List ℕ → Box → Call → List (List ℕ)
for_signing key b call =
    cond (accepts key b call && not (held_by key b call).answer.repeat)
    (statements_in call (held_by key b call).area)
    []

-- the same record with its rows as bytes, of which digests are taken and statements speak
abbrev pub flat : Box → Keeper
flat b = record { head = b.head; table = flattened b.rows }
