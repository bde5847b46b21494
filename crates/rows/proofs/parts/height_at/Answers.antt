use mathlib.Core.Path.{◌∙◌}
use Rattle.rows.proofs.Rows.{height_part}
use Rattle.rows.proofs.parts.height_at.Goals as goal

pub returns : goal.returns
returns c = c.number_at.ensures ∙ height_part c.args.table.now c.args.i
