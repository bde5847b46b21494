use Prim.Native.Nat.{ℕ, ◌*◌, ◌<◌}
use mathlib.Core.Path.{◌≡◌}
use lib.ListN.{length}
use Rattle.hexes.specs.Digits.{SpelledAt}
use Rattle.hexes.proofs.decode.Given as goal

abbrev pub invariant-loop-i : goal.invariant-loop-i
invariant-loop-i l = (length l.out ≡ length l.initial.out) × (length l.digits ≡ 2 * length l.initial.out) × ((k : ℕ) → k < l.i → SpelledAt l.digits l.out k)
