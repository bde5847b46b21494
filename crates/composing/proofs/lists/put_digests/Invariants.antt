use mathlib.Core.Path.{◌≡◌}
use Rattle.octets.specs.Strings.{put}
use Rattle.maker.specs.Lists.{listed}
use Rattle.composing.proofs.lists.put_digests.Given as goal

abbrev pub invariant-loop-d : goal.invariant-loop-d
invariant-loop-d l = l.area ≡ put l.initial.area l.at (listed l.store l.label l.height l.d)
