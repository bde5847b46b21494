use mathlib.Core.Path.{◌≡◌}
use mathlib.Core.Bool.{true}
use Prim.Native.Nat.{ℕ, suc, ◌+◌}
use Rattle.rows.specs.Table.{each}
use Rattle.rules.specs.Derivation.{grown}
use Rattle.maker.specs.Lists.{answered, listed}
use Rattle.listing.proofs.answers.leads_on.Given as goal

abbrev pub invariant-loop-d : goal.invariant-loop-d
invariant-loop-d l = (each (λ (k : ℕ). answered l.store l.label (l.row.height + suc k)) l.d ≡ true) × (l.tail ≡ grown l.row.tail (listed l.store l.label l.row.height l.d) l.d)
