use mathlib.Core.Path.{◌≡◌}
use Rattle.rows.specs.Sizes.{table_bytes}
use Rattle.roll.specs.Blocks.{gathered}
use Rattle.roll.specs.Roll.{filled}
use Rattle.roll.proofs.gather.gather.Given as goal

abbrev pub invariant-loop-b : goal.invariant-loop-b
invariant-loop-b l = l.table ≡ filled table_bytes (gathered l.s l.b)
