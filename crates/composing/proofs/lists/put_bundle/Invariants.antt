use mathlib.Core.Path.{◌≡◌}
use Prim.Native.Nat.{◌+◌, ◌≤◌}
use lib.ListN.{length}
use Rattle.rules.specs.Bundle.{old_count}
use Rattle.bundle.specs.Rolls.{rolls_left}
use Rattle.bundle.proofs.RollsLeft.{rest_of}
use Rattle.octets.specs.Strings.{put}
use Rattle.composing.specs.Written.{lists_of}
use Rattle.composing.proofs.lists.put_bundle.Given as goal

abbrev pub invariant-loop-roll : goal.invariant-loop-roll
invariant-loop-roll l = record {
  given : length l.yielded ≤ old_count l.e;
  left : rolls_left l.roll-iterator ≡ rest_of l.e (length l.yielded);
  place : l.place ≡ length l.e + length (lists_of l.e l.store l.table l.count (length l.yielded));
  area : l.area ≡ put l.initial.area (length l.e) (lists_of l.e l.store l.table l.count (length l.yielded));
}
