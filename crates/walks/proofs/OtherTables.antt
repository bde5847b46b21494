-- The rules of the calls on a table of another length than 63: each refuses, and changes nothing. Assumes nothing.
use mathlib.Core.List.{List}
use Prim.Native.Nat.{ℕ, ◌+◌}
use lib.ListN.{length}
use lib.Dec.{ltb}
use Rattle.refusals.specs.{not_active, not_blank, not_prepared}
use Rattle.statement.specs.Kinds.{receipt_size, reading_size, handover_size}
use Rattle.rules.specs.Record.{active, blank, prepared}
use Rattle.rules.specs.Outcomes.{lending, readiness}
use Rattle.rules.specs.New.{new_refusal, making}
use Rattle.rules.specs.Append.{append_refusal, appending}
use Rattle.rules.specs.AppendMany.{append_many_refusal, appending_many}
use Rattle.rules.specs.Read.{reading, appending_and_reading}
use Rattle.rules.specs.Initialise.{initialise_refusal, initialising}
use Rattle.rules.specs.Finalise.{finalise_size, finalising}
use Rattle.rules.specs.Activate.{bundle_tests, activating}
use Rattle.rules.specs.Check.{checking}
use Rattle.table.specs.Held.{Refuses}
use Rattle.table.proofs.HeldRows.{unsound, one_or_two, refuses}

-- the calls on ledgers
pub making_other : (label : List ℕ) → Refuses (λ k. making k label) receipt_size
unfolding making new_refusal
making_other label head rows area ts n = refuses receipt_size active not_active _ _ _ _ (unsound head rows ts n)

pub appending_other : (label entry : List ℕ) (expected : ℕ) → Refuses (λ k. appending k label entry expected) receipt_size
unfolding appending append_refusal
appending_other label entry expected head rows area ts n = refuses receipt_size active not_active _ _ _ _ (unsound head rows ts n)

pub appending_many_other : (label list : List ℕ) (expected : ℕ) → Refuses (λ k. appending_many k label list expected) receipt_size
unfolding appending_many append_many_refusal
appending_many_other label list expected head rows area ts n = refuses receipt_size active not_active _ _ _ _ (unsound head rows ts n)

pub reading_other : (label nonce : List ℕ) → Refuses (λ k. reading k label nonce) reading_size
unfolding reading
reading_other label nonce head rows area ts n = refuses reading_size active not_active _ _ _ _ (unsound head rows ts n)

pub both_other :
    (label entry : List ℕ) (expected : ℕ) (nonce : List ℕ)
    → Refuses (λ k. appending_and_reading k label entry expected nonce) (receipt_size + reading_size)
unfolding appending_and_reading append_refusal
both_other label entry expected nonce head rows area ts n =
    refuses (receipt_size + reading_size) active not_active _ _ _ _ (unsound head rows ts n)

-- the calls by which one rack follows another
pub initialising_other : (identity roll previous own : List ℕ) → Refuses (λ k. initialising k identity roll previous own) handover_size
unfolding initialise_refusal initialising
initialising_other identity roll previous own head rows area ts n =
    refuses handover_size blank not_blank _ _ _ _ (unsound head rows ts n)

pub checking_other : (previous own bundle : List ℕ) (list number : ℕ) → Refuses (λ k. checking k previous own bundle list number) handover_size
unfolding lending readiness bundle_tests checking
checking_other previous own bundle list number head rows area ts n =
    refuses handover_size prepared not_prepared _ _ _ _ (unsound head rows ts n)

-- also where the keeper is finalised
pub finalising_other : (next : List ℕ) → Refuses (λ k. finalising k next) finalise_size
unfolding lending finalising
finalising_other next head rows area ts n = rw (unsound head rows ts n) (one_or_two (ltb (length area) finalise_size) _ 0 _ _)

-- with 2 alone, since it needs no area
pub activating_other : (previous own bundle : List ℕ) → Refuses (λ k. activating k previous own bundle) 0
unfolding lending readiness bundle_tests activating
activating_other previous own bundle head rows area ts n = rw (unsound head rows ts n) (one_or_two (ltb (length area) 0) _ 0 _ _)
