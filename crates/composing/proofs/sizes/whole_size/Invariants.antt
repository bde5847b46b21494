use mathlib.Core.Path.{◌≡◌}
use Prim.Native.Nat.{◌+◌, ◌*◌, ◌≤◌}
use lib.ListN.{length}
use Rattle.rules.specs.Bundle.{old_count}
use Rattle.bundle.specs.Rolls.{rolls_left}
use Rattle.bundle.proofs.RollsLeft.{rest_of}
use Rattle.composing.specs.Sizes.{whole_size}
use Rattle.composing.proofs.sizes.whole_size.Given as goal

abbrev pub invariant-loop-roll : goal.invariant-loop-roll
invariant-loop-roll l = record {
  given : length l.yielded ≤ old_count l.e;
  left : rolls_left l.roll-iterator ≡ rest_of l.e (length l.yielded);
  size : l.size ≡ whole_size l.e l.table l.count (length l.yielded);
  bound : l.size ≤ 65536 + 130000 * length l.yielded;
}
