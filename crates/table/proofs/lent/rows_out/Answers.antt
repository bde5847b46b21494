use mathlib.Core.Path.{◌≡◌, sym, ap₂, ◌∙◌}
use mathlib.Core.List.{List}
use native.Mathlib.Omega.{arith}
use lib.ListN.{length, set}
use Rattle.rows.specs.Sizes.{most_rows}
use Rattle.table.specs.declared.Row.{Row}
use Rattle.table.specs.Flat.{rows_of}
use Rattle.table.proofs.RowsPut.{put_start, put_next, rows_get, rows_length, no_row}
use Rattle.table.proofs.lent.rows_out.Goals as goal

pub loop-i-init : goal.loop-i-init
loop-i-init c =
    let old = c.args.rows.now in
    let n : length old ≡ most_rows = c.requires.0 in
    put_start old (rows_of most_rows c.args.bytes.now) c.args.places.start (omega arith)

pub loop-i-preserved : goal.loop-i-preserved
loop-i-preserved c =
    let l = c.loop-i in
    let old = c.args.rows.now in
    let new = rows_of most_rows c.args.bytes.now in
    let n : length old ≡ most_rows = c.requires.0 in
    let m : length new ≡ most_rows = rows_length most_rows c.args.bytes.now in
    let r = c.row_at.ensures ∙ sym (rows_get most_rows c.args.bytes.now l.i no_row (omega arith)) in
    ap₂ (λ (rows : List Row) (row : Row). set rows l.i row) l.invariant r
    ∙ put_next old new (m ∙ sym n) c.args.places.start l.i (omega arith) no_row (omega arith)
