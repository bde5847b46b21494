use mathlib.Core.Path.{◌≡◌}
use mathlib.Core.Bool.{true}
use Prim.Native.Nat.{◌≤◌}
use lib.ListN.{length}
use Rattle.rules.specs.Bundle.{old_count}
use Rattle.bundle.specs.Rolls.{rolls_left}
use Rattle.bundle.proofs.RollsLeft.{rest_of}
use Rattle.rows.specs.Table.{each}
use Rattle.maker.specs.Lists.{leads}
use Rattle.listing.proofs.leading.led_to.Given as goal

abbrev pub invariant-loop-roll : goal.invariant-loop-roll
invariant-loop-roll l = record {
  given : length l.yielded ≤ old_count l.e;
  left : rolls_left l.roll-iterator ≡ rest_of l.e (length l.yielded);
  led : each (leads l.e l.store l.label) (length l.yielded) ≡ true;
}
