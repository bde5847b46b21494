use Rattle.std.proofs.Common.{◌≡◌, ◌*◌, length, take}
use Rattle.hash.specs.Digest.{joined}
use Rattle.hash.proofs.words.joined_words.Given as goal

abbrev pub invariant-loop-i : goal.invariant-loop-i
invariant-loop-i l = (length l.out ≡ 32) × (take (4 * l.i) l.out ≡ joined 4 l.fn.h l.i)
