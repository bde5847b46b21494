use mathlib.Core.Path.{◌≡◌}
use mathlib.Core.Bool.{true}
use Prim.Native.Nat.{◌≤◌, ◌*◌}
use Rattle.marks.specs.Entries.{entries_fit}
use Rattle.marks.proofs.Listed.{lowest}
use Rattle.rows.specs.Table.{each}
use Rattle.rules.specs.Bundle.{longest_bundle, old_at, old_position, old_marks, blocks_fit}
use Rattle.bundle.proofs.fitting.old_entries_fit.Given as goal

abbrev pub invariant-loop : goal.invariant-loop
invariant-loop l = record {
  placed : l.at ≡ old_at l.s l.counter;
  lower : l.low ≡ lowest (old_position l.s) l.counter;
  near : l.at ≤ 2 * longest_bundle;
  entries : entries_fit l.n (old_position l.s) (old_marks l.s) l.counter ≡ true;
  blocks : each (blocks_fit l.s) l.counter ≡ true;
}
