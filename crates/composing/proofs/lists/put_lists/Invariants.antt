use mathlib.Core.Path.{◌≡◌}
use Prim.Native.Nat.{◌+◌}
use lib.ListN.{length}
use Rattle.octets.specs.Strings.{put}
use Rattle.composing.specs.Written.{lists_by}
use Rattle.composing.proofs.lists.put_lists.Given as goal

abbrev pub invariant-loop-r : goal.invariant-loop-r
invariant-loop-r l = (l.place ≡ l.at + length (lists_by l.roll l.store l.table l.r)) × (l.area ≡ put l.initial.area l.at (lists_by l.roll l.store l.table l.r))
