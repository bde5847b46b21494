-- The contract of each exported call allows one outcome: two that it allows for the same arguments have the same answer, and leave the same head, rows and
-- area; and an answer other than 0 leaves these as they were lent. Assumes nothing.
use mathlib.Core.Path.{◌≡◌}
use mathlib.Core.List.{[]}
use seplogic.Ra.Ura.{Ura}
use base.Logic.{SProp, emp}
use prog.Memory.{Memory}
use prog.Routine.{Routine}
use types.Logic.{Logic}
use contract.Lifetimes.{Lfts}
use contract.Monad.{Fun, fact}
use denote.Triple.Clauses.{Clauses, AtExit}
use denote.Triple.Entry.{Args}
use Rattle.rules.specs.declared.Answer.{Answer}
use Rattle.rules.specs.Outcomes.{Lent, Outcome}
use Rattle.rules.specs.Wake.{waking}
use Rattle.rules.specs.New.{making}
use Rattle.rules.specs.Append.{appending}
use Rattle.rules.specs.AppendMany.{appending_many}
use Rattle.rules.specs.Read.{reading, appending_and_reading}
use Rattle.rules.proofs.Refused.{Spares, waking_spares, making_spares, appending_spares, appending_many_spares, reading_spares, appending_and_reading_spares}
use Rattle.table.specs.declared.Asked.{Asked}
use Rattle.table.specs.Held.{Held, over_rows}
use Rattle.table.proofs.Outcomes.{held, One, Spared, one_outcome, refusal_spares}
use Rattle.keeper.specs.contracts.waking.mahqurith_wake as wake
use Rattle.keeper.specs.contracts.thin.mahqurith_new as new
use Rattle.keeper.specs.contracts.thin.mahqurith_append as append
use Rattle.keeper.specs.contracts.many.mahqurith_append_many as append-many
use Rattle.keeper.specs.contracts.thin.mahqurith_read as read
use Rattle.keeper.specs.contracts.thin.mahqurith_append_and_read as append-and-read

-- what a call on ledgers is lent, and its outcome
abbrev lent : (κs : Lfts 3) → Args new.signature κs → Answer → Held
lent κs a answer = held answer a.0.now a.1.0.now a.1.1.1.0.now

abbrev seen : (κs : Lfts 3) → Args new.signature κs → Answer → AtExit new.ended κs → Held
seen κs a r e = held r e.0.now e.1.0.now e.1.1.1.0.now

-- of Append many, which has a list besides
abbrev lent_with_list : (κs : Lfts 4) → Args append-many.signature κs → Answer → Held
lent_with_list κs a answer = held answer a.0.now a.1.0.now a.1.1.1.1.0.now

abbrev seen_with_list : (κs : Lfts 4) → Args append-many.signature κs → Answer → AtExit append-many.ended κs → Held
seen_with_list κs a r e = held r e.0.now e.1.0.now e.1.1.1.1.0.now

-- of Read, which leaves the head and the rows that it is lent
abbrev lent_to_read : (κs : Lfts 3) → Args read.signature κs → Answer → Held
lent_to_read κs a answer = held answer a.0.now a.1.0.now a.1.1.1.0.now

abbrev seen_of_read : (κs : Lfts 3) → Args read.signature κs → Answer → AtExit read.ended κs → Held
seen_of_read κs a r e = held r a.0.now a.1.0.now e.1.1.1.0.now

-- of the calls that change the record, whichever their rule
module _ {M : Type 1} (𝓤 : Ura M) (rule : Lent → Asked → Outcome) where
  abbrev thin_clauses : Clauses 𝓤 new.ended
  thin_clauses = λ κs a. record {
    ghost = Unit {0};
    requires = λ g. emp 𝓤;
    ensures = λ g r e. fact 𝓤 (seen κs a r e ≡ over_rows (λ k. rule k a.1.1.0) a.0.now a.1.0.now a.1.1.1.0.now);
  }

  thin_one : One 𝓤 new.ended thin_clauses seen
  thin_one κs a g r r' e e' =
      one_outcome 𝓤 (λ k. rule k a.1.1.0) a.0.now a.1.0.now a.1.1.1.0.now (seen κs a r e) (seen κs a r' e')

  thin_spared : ((k : Lent) (asked : Asked) → Spares k (rule k asked)) → Spared 𝓤 new.ended thin_clauses lent seen
  thin_spared spares κs a g r e ts =
      refusal_spares 𝓤 (λ k. rule k a.1.1.0) a.0.now a.1.0.now a.1.1.1.0.now (spares _ a.1.1.0) ts (seen κs a r e)

module _ {M : Type 1} {𝓤 : Ura M} (𝓛 : Logic 𝓤) (mem : Memory → SProp 𝓤) (run : Routine → Fun 𝓤) where
  pub wake_one : One 𝓤 wake.ended (wake.clauses 𝓛 mem run) (λ κs a r e. held r e.0.now e.1.0.now [])
  wake_one κs a g r r' e e' = one_outcome 𝓤 (λ k. waking k a.1.1.0.key) a.0.now a.1.0.now [] _ _

  pub wake_spared :
      Spared 𝓤 wake.ended (wake.clauses 𝓛 mem run) (λ κs a answer. held answer a.0.now a.1.0.now [])
      (λ κs a r e. held r e.0.now e.1.0.now [])
  wake_spared κs a g r e ts =
      refusal_spares 𝓤 (λ k. waking k a.1.1.0.key) a.0.now a.1.0.now [] (waking_spares _ a.1.1.0.key) ts _

  pub new_one : One 𝓤 new.ended (new.clauses 𝓛 mem run) seen
  new_one = thin_one 𝓤 (λ k a. making k a.label)

  pub new_spared : Spared 𝓤 new.ended (new.clauses 𝓛 mem run) lent seen
  new_spared = thin_spared 𝓤 (λ k a. making k a.label) (λ k a. making_spares k a.label)

  pub append_one : One 𝓤 append.ended (append.clauses 𝓛 mem run) seen
  append_one = thin_one 𝓤 (λ k a. appending k a.label a.entry a.expected)

  pub append_spared : Spared 𝓤 append.ended (append.clauses 𝓛 mem run) lent seen
  append_spared =
      thin_spared 𝓤 (λ k a. appending k a.label a.entry a.expected) (λ k a. appending_spares k a.label a.entry a.expected)

  pub append_many_one : One 𝓤 append-many.ended (append-many.clauses 𝓛 mem run) seen_with_list
  append_many_one κs a g r r' e e' =
      one_outcome 𝓤 (λ k. appending_many k a.1.1.0.label a.1.1.1.0.now a.1.1.0.expected) a.0.now a.1.0.now
      a.1.1.1.1.0.now _ _

  pub append_many_spared : Spared 𝓤 append-many.ended (append-many.clauses 𝓛 mem run) lent_with_list seen_with_list
  append_many_spared κs a g r e ts =
      refusal_spares 𝓤 (λ k. appending_many k a.1.1.0.label a.1.1.1.0.now a.1.1.0.expected) a.0.now a.1.0.now
      a.1.1.1.1.0.now (appending_many_spares _ a.1.1.0.label a.1.1.1.0.now a.1.1.0.expected) ts _

  pub read_one : One 𝓤 read.ended (read.clauses 𝓛 mem run) seen_of_read
  read_one κs a g r r' e e' = one_outcome 𝓤 (λ k. reading k a.1.1.0.label a.1.1.0.nonce) a.0.now a.1.0.now a.1.1.1.0.now _ _

  pub read_spared : Spared 𝓤 read.ended (read.clauses 𝓛 mem run) lent_to_read seen_of_read
  read_spared κs a g r e ts =
      refusal_spares 𝓤 (λ k. reading k a.1.1.0.label a.1.1.0.nonce) a.0.now a.1.0.now a.1.1.1.0.now
      (reading_spares _ a.1.1.0.label a.1.1.0.nonce) ts _

  pub append_and_read_one : One 𝓤 append-and-read.ended (append-and-read.clauses 𝓛 mem run) seen
  append_and_read_one = thin_one 𝓤 (λ k a. appending_and_reading k a.label a.entry a.expected a.nonce)

  pub append_and_read_spared : Spared 𝓤 append-and-read.ended (append-and-read.clauses 𝓛 mem run) lent seen
  append_and_read_spared =
      thin_spared 𝓤 (λ k a. appending_and_reading k a.label a.entry a.expected a.nonce)
      (λ k a. appending_and_reading_spares k a.label a.entry a.expected a.nonce)
