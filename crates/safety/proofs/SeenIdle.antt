-- Bytes to check changes nothing: head and table stay, and nothing is for signing. Assumes nothing.
use mathlib.Core.Path.{refl, ap}
use mathlib.Core.List.{List, map}
use Prim.Native.Nat.{ℕ}
use Rattle.statement.specs.declared.Statement.{Statement}
use Rattle.statement.specs.Cut.{cut_statement}
use Rattle.rules.specs.Outcomes.{given}
use Rattle.rules.specs.Check.{spoken_of, checking}
use Rattle.safety.specs.Calls.{Keeper, Call, BytesToCheck, lent, outcome_of, left_by, statements_in}
use Rattle.safety.proofs.Views.{View, idles}
use Rattle.safety.proofs.Tales.{says}
use Rattle.safety.proofs.Ended.{unless_refused, gives}

module _ (Hashes : List ℕ → Type 0) (Said : List ℕ → Statement → Type 0) (key : List ℕ) (k : Keeper) where
  pub seen_check :
      (previous own bundle : List ℕ) (list entry : ℕ) (area : List ℕ)
      → View Hashes Said k (left_by key k (BytesToCheck previous own bundle list entry area)) (says key k (BytesToCheck previous own bundle list entry area))
  unfolding outcome_of checking statements_in
  seen_check previous own bundle list entry area =
      let call : Call = BytesToCheck previous own bundle list entry area in
      let words : List ℕ = spoken_of (lent k area) bundle list entry in
      unless_refused key k call Hashes Said _ 0 area (given words k.head k.table area) refl
      (λ accepts o.
      let g = gives key k call words k.head k.table area o in
      idles (record { same_head = ap (λ (x : Keeper). x.head) g.leaves; same_table = ap (λ (x : Keeper). x.table) g.leaves; says = ap (map cut_statement) g.signs }))
