use native.Mathlib.Omega.{arith}
use Rattle.roll.proofs.Blocks.{blocks_within}
use Rattle.roll.proofs.write.roll_bytes.Goals as goal

pub overflow_mul-result : goal.overflow_mul-result
overflow_mul-result c = omega (arith, c.blocks-2.ensures, blocks_within c.args.count c.requires)
