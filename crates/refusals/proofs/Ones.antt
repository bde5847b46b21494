-- A contract that allows one outcome. Assumes nothing.
use mathlib.Core.Path.{◌≡◌}
use mathlib.Core.List.{List}
use Prim.Native.Nat.{ℕ}
use denote.Triple.Clauses.{AtExit}
use borrow.Fn.Kind.{ParamKind, ResultKind}
use borrow.Fn.Kinds.{Out, Dens, res_t, ended_of}
use contract.Lifetimes.{Lfts}

-- of two outcomes that a contract allows, all that is seen is the same: `post` is the contract's `ensures`, over the arguments a, the result r and the parameters at exit e
module _ (n : ℕ) (ps : List (ParamKind n)) (res : ResultKind n) where
  abbrev pub One : (B : Type 0) → Out n ps res → ((κs : Lfts n) → (res_t res κs).Denot → AtExit (ended_of n ps res) κs → B) → Type 0
  One B post seen =
      (κs : Lfts n) (a : Dens κs ps) (r r' : (res_t res κs).Denot) (e e' : AtExit (ended_of n ps res) κs)
      → post κs a r e → post κs a r' e' → seen κs r e ≡ seen κs r' e'
