use mathlib.Core.Path.{◌≡◌}
use Prim.Native.Nat.{◌≤◌}
use lib.ListN.{length}
use Rattle.rules.specs.Bundle.{old_count}
use Rattle.bundle.specs.Rolls.{rolls_left}
use Rattle.bundle.proofs.RollsLeft.{rest_of}
use Rattle.maker.specs.Rolls.{highest_of}
use Rattle.gathering.proofs.old.highest.Given as goal

abbrev pub invariant-loop-roll : goal.invariant-loop-roll
invariant-loop-roll l = record {
  given : length l.yielded ≤ old_count l.e;
  left : rolls_left l.roll-iterator ≡ rest_of l.e (length l.yielded);
  best : l.best ≡ highest_of l.e l.label (length l.yielded);
}
