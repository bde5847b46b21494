-- A contract that allows one outcome of a call whose result is told by the head that it was lent. Assumes nothing.
use mathlib.Core.Path.{◌≡◌}
use mathlib.Core.List.{List}
use Prim.Native.Nat.{ℕ}
use denote.Triple.Clauses.{AtExit}
use borrow.Fn.Kind.{ParamKind, ResultKind}
use borrow.Fn.Kinds.{Out, Dens, res_t, ended_of}
use contract.Lifetimes.{Lfts}

-- of two outcomes that a contract allows, all that is seen is the same, as `One` of the rack's laws says it; what is seen may name the arguments
module _ (n : ℕ) (ps : List (ParamKind n)) (res : ResultKind n) where
  abbrev pub OneOf : (B : Type 0) → Out n ps res → ((κs : Lfts n) → Dens κs ps → (res_t res κs).Denot → AtExit (ended_of n ps res) κs → B) → Type 0
  OneOf B post seen =
      (κs : Lfts n) (a : Dens κs ps) (r r' : (res_t res κs).Denot) (e e' : AtExit (ended_of n ps res) κs)
      → post κs a r e → post κs a r' e' → seen κs a r e ≡ seen κs a r' e'
