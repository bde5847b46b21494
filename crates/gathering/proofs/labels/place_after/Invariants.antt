use mathlib.Core.Path.{◌≡◌}
use mathlib.Core.Bool.{true}
use Rattle.rows.specs.Table.{each}
use Rattle.roll.specs.Roll.{roll_layout}
use Rattle.gathering.specs.Old.{up_to}
use Rattle.gathering.proofs.labels.place_after.Given as goal

abbrev pub invariant-loop-q : goal.invariant-loop-q
invariant-loop-q l = each (up_to (roll_layout.cut l.roll).rows l.last) l.q ≡ true
