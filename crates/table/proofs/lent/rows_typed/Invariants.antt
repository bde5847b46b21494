use lib.ListN.{take}
use Rattle.table.specs.Typed.{AllTyped}
use Rattle.table.proofs.lent.rows_typed.Given as goal

abbrev pub invariant-loop-row : goal.invariant-loop-row
invariant-loop-row l = AllTyped (take l.row-index l.rows)
