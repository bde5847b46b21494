use mathlib.Core.Path.{◌∙◌}
use Rattle.rows.proofs.Rows.{row_part}
use Rattle.rows.proofs.table.row_fits.Goals as goal

pub returns : goal.returns
returns c = rw c.number_at.ensures at c.row_holds.ensures ∙ row_part c.args.rows.now c.args.i
