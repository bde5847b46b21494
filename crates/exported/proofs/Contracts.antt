-- What the contract of each exported call allows is what `held_by` says of the call that its arguments make up. Assumes nothing.
use mathlib.Core.Path.{◌≡◌}
use mathlib.Core.List.{List, []}
use Prim.Native.Nat.{ℕ}
use seplogic.Ra.Ura.{Ura}
use base.Logic.{SProp, ent, id⊢}
use prog.Memory.{Memory}
use prog.Routine.{Routine}
use types.Logic.{Logic}
use contract.Lifetimes.{Lfts}
use contract.Monad.{Fun, fact}
use denote.Triple.Clauses.{Ended, AtExit, Clauses}
use denote.Triple.Entry.{Args, Res}
use Rattle.rules.specs.declared.Head.{Head}
use Rattle.table.specs.declared.Row.{Row}
use Rattle.table.specs.Held.{Held}
use Rattle.table.proofs.Outcomes.{held}
use Rattle.keeper.specs.contracts.mahqurith_wake as wake
use Rattle.keeper.specs.contracts.mahqurith_new as new
use Rattle.keeper.specs.contracts.mahqurith_append as append
use Rattle.keeper.specs.contracts.mahqurith_append_many as append-many
use Rattle.keeper.specs.contracts.mahqurith_read as read
use Rattle.keeper.specs.contracts.mahqurith_append_and_read as append-and-read
use Rattle.succession.specs.contracts.mahqurith_initialise as initialise
use Rattle.succession.specs.contracts.mahqurith_finalise as finalise
use Rattle.succession.specs.contracts.mahqurith_activate as activate
use Rattle.succession.specs.contracts.mahqurith_bytes_to_check as check
use Rattle.safety.specs.Calls.{Call, Wake, Initialise, New, Append, AppendMany, Read, AppendAndRead, Finalise, Activate, BytesToCheck}
use Rattle.exported.specs.Calls.{Box, held_by}

abbrev box : Head → List Row → Box
box head rows = record { head = head; rows = rows }

-- `lent` and `call` are read off the arguments, `seen` off the result and the parameters at exit; what is lent shared is as the argument has it
module _ {M : Type 1} (𝓤 : Ura M) (T : Ended) (c : Clauses 𝓤 T) where
  abbrev pub Says :
      ((κs : Lfts T.signature.lifetimes) → Args T.signature κs → List ℕ) → ((κs : Lfts T.signature.lifetimes) → Args T.signature κs → Box)
      → ((κs : Lfts T.signature.lifetimes) → Args T.signature κs → Call)
      → ((κs : Lfts T.signature.lifetimes) → Args T.signature κs → Res T.signature κs → AtExit T κs → Held) → Type 1
  Says key lent call seen =
      (κs : Lfts T.signature.lifetimes) (a : Args T.signature κs) (g : (c κs a).ghost) (r : Res T.signature κs) (e : AtExit T κs)
      → ent 𝓤 ((c κs a).ensures g r e) (fact 𝓤 (seen κs a r e ≡ held_by (key κs a) (lent κs a) (call κs a)))

module _ {M : Type 1} {𝓤 : Ura M} (𝓛 : Logic 𝓤) (mem : Memory → SProp 𝓤) (run : Routine → Fun 𝓤) where
  pub wake-held :
      Says 𝓤 wake.ended (wake.clauses 𝓛 mem run) (λ κs a. a.1.1.0.key) (λ κs a. box a.0.now a.1.0.now) (λ κs a. Wake)
      (λ κs a r e. held r e.0.now e.1.0.now [])
  unfolding held_by
  wake-held κs a g r e = id⊢ 𝓤 _

  pub new-held :
      (key : List ℕ) → Says 𝓤 new.ended (new.clauses 𝓛 mem run) (λ κs a. key) (λ κs a. box a.0.now a.1.0.now)
      (λ κs a. New a.1.1.0.label a.1.1.1.0.now)
      (λ κs a r e. held r e.0.now e.1.0.now e.1.1.1.0.now)
  unfolding held_by
  new-held key κs a g r e = id⊢ 𝓤 _

  pub append-held :
      (key : List ℕ) → Says 𝓤 append.ended (append.clauses 𝓛 mem run) (λ κs a. key) (λ κs a. box a.0.now a.1.0.now)
      (λ κs a. Append a.1.1.0.label a.1.1.0.entry a.1.1.0.expected a.1.1.1.0.now)
      (λ κs a r e. held r e.0.now e.1.0.now e.1.1.1.0.now)
  unfolding held_by
  append-held key κs a g r e = id⊢ 𝓤 _

  pub append_many-held :
      (key : List ℕ) → Says 𝓤 append-many.ended (append-many.clauses 𝓛 mem run) (λ κs a. key) (λ κs a. box a.0.now a.1.0.now)
      (λ κs a. AppendMany a.1.1.0.label a.1.1.1.0.now a.1.1.0.expected a.1.1.1.1.0.now)
      (λ κs a r e. held r e.0.now e.1.0.now e.1.1.1.1.0.now)
  unfolding held_by
  append_many-held key κs a g r e = id⊢ 𝓤 _

  pub read_held :
      (key : List ℕ) → Says 𝓤 read.ended (read.clauses 𝓛 mem run) (λ κs a. key) (λ κs a. box a.0.now a.1.0.now)
      (λ κs a. Read a.1.1.0.label a.1.1.0.nonce a.1.1.1.0.now)
      (λ κs a r e. held r a.0.now a.1.0.now e.1.1.1.0.now)
  unfolding held_by
  read_held key κs a g r e = id⊢ 𝓤 _

  pub append_and_read-held :
      (key : List ℕ) → Says 𝓤 append-and-read.ended (append-and-read.clauses 𝓛 mem run) (λ κs a. key) (λ κs a. box a.0.now a.1.0.now)
      (λ κs a. AppendAndRead a.1.1.0.label a.1.1.0.entry a.1.1.0.expected a.1.1.0.nonce a.1.1.1.0.now)
      (λ κs a r e. held r e.0.now e.1.0.now e.1.1.1.0.now)
  unfolding held_by
  append_and_read-held key κs a g r e = id⊢ 𝓤 _

  pub initialise-held :
      (key : List ℕ) → Says 𝓤 initialise.ended (initialise.clauses 𝓛 mem run) (λ κs a. key) (λ κs a. box a.0.now a.1.0.now)
      (λ κs a. Initialise a.1.1.0.identity a.1.1.1.0.now a.1.1.1.1.0.now a.1.1.1.1.1.0.now a.1.1.1.1.1.1.0.now)
      (λ κs a r e. held r e.0.now e.1.0.now e.1.1.1.1.1.1.0.now)
  unfolding held_by
  initialise-held key κs a g r e = id⊢ 𝓤 _

  pub finalise-held :
      (key : List ℕ) → Says 𝓤 finalise.ended (finalise.clauses 𝓛 mem run) (λ κs a. key) (λ κs a. box a.0.now a.1.0.now)
      (λ κs a. Finalise a.1.1.0.now a.1.1.1.0.now)
      (λ κs a r e. held r e.0.now a.1.0.now e.1.1.1.0.now)
  unfolding held_by
  finalise-held key κs a g r e = id⊢ 𝓤 _

  pub activate-held :
      (key : List ℕ) → Says 𝓤 activate.ended (activate.clauses 𝓛 mem run) (λ κs a. key) (λ κs a. box a.0.now a.1.0.now)
      (λ κs a. Activate a.1.1.0.now a.1.1.1.0.now a.1.1.1.1.0.now)
      (λ κs a r e. held r e.0.now a.1.0.now [])
  unfolding held_by
  activate-held key κs a g r e = id⊢ 𝓤 _

  pub check-held :
      (key : List ℕ) → Says 𝓤 check.ended (check.clauses 𝓛 mem run) (λ κs a. key) (λ κs a. box a.0.now a.1.0.now)
      (λ κs a. BytesToCheck a.1.1.1.0.now a.1.1.1.1.0.now a.1.1.1.1.1.0.now a.1.1.0.list a.1.1.0.number
      a.1.1.1.1.1.1.0.now)
      (λ κs a r e. held r a.0.now a.1.0.now e.1.1.1.1.1.1.0.now)
  unfolding held_by
  check-held key κs a g r e = id⊢ 𝓤 _
