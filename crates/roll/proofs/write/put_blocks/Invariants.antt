use mathlib.Core.Path.{◌≡◌}
use Rattle.octets.specs.Strings.{put}
use Rattle.roll.specs.Blocks.{first_blocks}
use Rattle.roll.proofs.write.put_blocks.Given as goal

abbrev pub invariant-loop-b : goal.invariant-loop-b
invariant-loop-b l = l.area ≡ put l.initial.area 0 (first_blocks l.count l.rows l.b)
