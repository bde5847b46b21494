use Rattle.std.proofs.Common.{◌≡◌, length, take}
use Rattle.hash.specs.Padding.{words}
use Rattle.hash.proofs.chunk.fill.Given as goal

abbrev pub invariant-loop-t : goal.invariant-loop-t
invariant-loop-t l = (length l.w ≡ 16) × (take l.t l.w ≡ words 4 l.chunk l.t)
