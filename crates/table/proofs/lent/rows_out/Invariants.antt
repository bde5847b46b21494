use mathlib.Core.Path.{◌≡◌}
use Rattle.rows.specs.Sizes.{most_rows}
use Rattle.table.specs.Flat.{rows_of, rows_put}
use Rattle.table.proofs.lent.rows_out.Given as goal

abbrev pub invariant-loop-i : goal.invariant-loop-i
invariant-loop-i l = l.rows ≡ rows_put l.fn.places.start l.i l.initial.rows (rows_of most_rows l.bytes)
