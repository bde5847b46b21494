use Rattle.table.specs.Typed.{nil}
use Rattle.table.proofs.RowTrips.{typed_next}
use Rattle.table.proofs.lent.rows_typed.Goals as goal

pub loop-row-init : goal.loop-row-init
loop-row-init c = nil

pub loop-row-preserved : goal.loop-row-preserved
loop-row-preserved c = typed_next c.args.rows.now c.loop-row.row-index _ c.loop-row-test.true c.loop-row.invariant c.row_typed.ensures
