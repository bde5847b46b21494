-- The contract of each exported call allows one outcome: two that it allows for the same arguments have the same answer, and leave the same head, rows and
-- area; and an answer other than 0 leaves these as they were lent. Assumes nothing.
use mathlib.Core.List.{[]}
use seplogic.Ra.Ura.{Ura}
use base.Logic.{SProp}
use prog.Memory.{Memory}
use prog.Routine.{Routine}
use types.Logic.{Logic}
use contract.Lifetimes.{Lfts}
use contract.Monad.{Fun}
use denote.Triple.Clauses.{AtExit}
use denote.Triple.Entry.{Args}
use Rattle.rules.specs.declared.Answer.{Answer}
use Rattle.rules.specs.Initialise.{initialising}
use Rattle.rules.specs.Finalise.{finalising}
use Rattle.rules.specs.Activate.{activating}
use Rattle.rules.specs.Check.{checking}
use Rattle.rules.proofs.Refused.{initialising_spares, finalising_spares, activating_spares, checking_spares}
use Rattle.table.specs.Held.{Held}
use Rattle.table.proofs.Outcomes.{held, One, Spared, one_outcome, refusal_spares}
use Rattle.succession.specs.contracts.passing.mahqurith_initialise as initialise
use Rattle.succession.specs.contracts.passing.mahqurith_bytes_to_check as check
use Rattle.succession.specs.contracts.finalising.mahqurith_finalise as finalise
use Rattle.succession.specs.contracts.activating.mahqurith_activate as activate

-- what Initialise and Bytes to check are lent, and their outcomes; Bytes to check leaves the head and the rows
abbrev lent : (κs : Lfts 6) → Args initialise.signature κs → Answer → Held
lent κs a answer = held answer a.0.now a.1.0.now a.1.1.1.1.1.1.0.now

abbrev seen : (κs : Lfts 6) → Args initialise.signature κs → Answer → AtExit initialise.ended κs → Held
seen κs a r e = held r e.0.now e.1.0.now e.1.1.1.1.1.1.0.now

abbrev lent_to_check : (κs : Lfts 6) → Args check.signature κs → Answer → Held
lent_to_check κs a answer = held answer a.0.now a.1.0.now a.1.1.1.1.1.1.0.now

abbrev seen_of_check : (κs : Lfts 6) → Args check.signature κs → Answer → AtExit check.ended κs → Held
seen_of_check κs a r e = held r a.0.now a.1.0.now e.1.1.1.1.1.1.0.now

module _ {M : Type 1} {𝓤 : Ura M} (𝓛 : Logic 𝓤) (mem : Memory → SProp 𝓤) (run : Routine → Fun 𝓤) where
  pub initialise_one : One 𝓤 initialise.ended (initialise.clauses 𝓛 mem run) seen
  initialise_one κs a g r r' e e' =
      one_outcome 𝓤 (λ k. initialising k a.1.1.0.identity a.1.1.1.0.now a.1.1.1.1.0.now a.1.1.1.1.1.0.now) a.0.now a.1.0.now
      a.1.1.1.1.1.1.0.now _ _

  pub initialise_spared : Spared 𝓤 initialise.ended (initialise.clauses 𝓛 mem run) lent seen
  initialise_spared κs a g r e ts =
      refusal_spares 𝓤 (λ k. initialising k a.1.1.0.identity a.1.1.1.0.now a.1.1.1.1.0.now a.1.1.1.1.1.0.now) a.0.now
      a.1.0.now
      a.1.1.1.1.1.1.0.now (initialising_spares _ a.1.1.0.identity a.1.1.1.0.now a.1.1.1.1.0.now a.1.1.1.1.1.0.now)
      ts _

  pub check_one : One 𝓤 check.ended (check.clauses 𝓛 mem run) seen_of_check
  check_one κs a g r r' e e' =
      one_outcome 𝓤 (λ k. checking k a.1.1.1.0.now a.1.1.1.1.0.now a.1.1.1.1.1.0.now a.1.1.0.list a.1.1.0.number) a.0.now a.1.0.now
      a.1.1.1.1.1.1.0.now _ _

  pub check_spared : Spared 𝓤 check.ended (check.clauses 𝓛 mem run) lent_to_check seen_of_check
  check_spared κs a g r e ts =
      refusal_spares 𝓤 (λ k. checking k a.1.1.1.0.now a.1.1.1.1.0.now a.1.1.1.1.1.0.now a.1.1.0.list a.1.1.0.number)
      a.0.now a.1.0.now
      a.1.1.1.1.1.1.0.now (checking_spares _ a.1.1.1.0.now a.1.1.1.1.0.now a.1.1.1.1.1.0.now a.1.1.0.list a.1.1.0.number) ts _

  pub finalise_one :
      One 𝓤 finalise.ended (finalise.clauses 𝓛 mem run) (λ κs a r e. held r e.0.now a.1.0.now e.1.1.1.0.now)
  finalise_one κs a g r r' e e' = one_outcome 𝓤 (λ k. finalising k a.1.1.0.now) a.0.now a.1.0.now a.1.1.1.0.now _ _

  pub finalise_spared :
      Spared 𝓤 finalise.ended (finalise.clauses 𝓛 mem run) (λ κs a answer. held answer a.0.now a.1.0.now a.1.1.1.0.now)
      (λ κs a r e. held r e.0.now a.1.0.now e.1.1.1.0.now)
  finalise_spared κs a g r e ts =
      refusal_spares 𝓤 (λ k. finalising k a.1.1.0.now) a.0.now a.1.0.now a.1.1.1.0.now (finalising_spares _ a.1.1.0.now) ts _

  pub activate_one : One 𝓤 activate.ended (activate.clauses 𝓛 mem run) (λ κs a r e. held r e.0.now a.1.0.now [])
  activate_one κs a g r r' e e' =
      one_outcome 𝓤 (λ k. activating k a.1.1.0.now a.1.1.1.0.now a.1.1.1.1.0.now) a.0.now a.1.0.now [] _ _

  pub activate_spared :
      Spared 𝓤 activate.ended (activate.clauses 𝓛 mem run) (λ κs a answer. held answer a.0.now a.1.0.now [])
      (λ κs a r e. held r e.0.now a.1.0.now [])
  activate_spared κs a g r e ts =
      refusal_spares 𝓤 (λ k. activating k a.1.1.0.now a.1.1.1.0.now a.1.1.1.1.0.now) a.0.now a.1.0.now []
      (activating_spares _ a.1.1.0.now a.1.1.1.0.now a.1.1.1.1.0.now) ts _
