use mathlib.Core.Path.{◌≡◌, sym, ◌∙◌}
use native.Mathlib.Omega.{arith}
use lib.ListN.{length}
use Rattle.rows.specs.Sizes.{most_rows}
use Rattle.table.proofs.RowTrips.{flattened_next, flattened_none, typed_get}
use Rattle.table.proofs.lent.flat_in.Goals as goal

pub loop-i-init : goal.loop-i-init
loop-i-init c = (c.requires.1, sym flattened_none)

pub loop-i-preserved : goal.loop-i-preserved
loop-i-preserved c =
    let l = c.loop-i in
    let rows = c.args.rows.now in
    let n : length rows ≡ most_rows = c.requires.0 in
    let k = flattened_next rows l.i l.bytes _ _ (typed_get {rows = rows} l.i _ c.rows_typed.ensures (omega arith)) (omega arith) (omega arith)
    l.invariant.1 c.put_row.ensures in
    (k.0 ∙ l.invariant.0, k.1)
