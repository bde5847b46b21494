use mathlib.Core.Path.{◌≡◌}
use mathlib.Core.Bool.{true}
use Prim.Native.Nat.{◌*◌, ◌≤◌}
use Rattle.rows.specs.Table.{each}
use Rattle.composing.specs.Sizes.{lists_size}
use Rattle.composing.proofs.Lengths.{fits}
use Rattle.composing.proofs.sizes.roll_size.Given as goal

abbrev pub invariant-loop-r : goal.invariant-loop-r
invariant-loop-r l = (each (fits l.roll l.table) l.r ≡ true) × (l.size ≡ lists_size l.roll l.table l.r) × (l.size ≤ 2050 * l.r)
