use mathlib.Core.Path.{◌≡◌}
use mathlib.Core.Bool.{true}
use Rattle.rows.specs.Table.{each}
use Rattle.rules.specs.Bundle.{list_at, list_of}
use Rattle.rules.specs.Derivation.{roll_of}
use Rattle.derivation.specs.Walk.{passed}
use Rattle.handover.proofs.Kept.{NotedTo}
use Rattle.handover.proofs.Descents.{walked, keeps_next}
use Rattle.handover.proofs.descent.roll_derived.Given as goal

abbrev pub invariant-loop-r : goal.invariant-loop-r
invariant-loop-r l = record {
  placed : l.place ≡ list_at l.s (list_of l.rows l.i l.r);
  met : l.q ≡ passed (roll_of l.s l.i) l.table l.r;
  led : each (walked (record { count = l.rows; rows = l.table }) (roll_of l.s l.i) l.s l.i) l.r ≡ true;
  noted : NotedTo (keeps_next (record { count = l.rows; rows = l.table }) (roll_of l.s l.i) l.s l.i) l.initial.kept l.kept l.r;
}
