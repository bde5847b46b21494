use mathlib.Core.Path.{refl}
use native.Mathlib.Omega.{arith}
use Rattle.rules.specs.Bundle.{old_at}
use Rattle.bundle.proofs.rolls.OldRolls.of.Goals as goal

pub invariant_of-result : goal.invariant_of-result
unfolding old_at
invariant_of-result c = record { placed = refl; counted = omega arith; within = c.requires.0; short = c.requires.1 }
