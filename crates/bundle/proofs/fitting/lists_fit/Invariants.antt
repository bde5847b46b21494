use mathlib.Core.Path.{◌≡◌}
use mathlib.Core.Bool.{true}
use Prim.Native.Nat.{◌≤◌, ◌*◌}
use Rattle.rows.specs.Table.{each}
use Rattle.rules.specs.Bundle.{longest_bundle, list_at, added_fits}
use Rattle.bundle.proofs.fitting.lists_fit.Given as goal

abbrev pub invariant-loop : goal.invariant-loop
invariant-loop l = record {
  placed : l.at ≡ list_at l.s l.counter;
  near : l.at ≤ 2 * longest_bundle;
  fit : each (added_fits l.s) l.counter ≡ true;
}
