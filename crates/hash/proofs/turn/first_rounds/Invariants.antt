use Rattle.std.proofs.Common.{◌≡◌, ◌*◌, length}
use Rattle.hash.specs.Sha256.{sha_256}
use Rattle.hash.specs.Turns.{stage, turn, steps}
use Rattle.hash.proofs.turn.first_rounds.Given as goal

abbrev pub invariant-loop-i : goal.invariant-loop-i
invariant-loop-i l = (length l.w ≡ 16) × (stage l.w l.state ≡ steps (turn sha_256) (stage l.initial.w l.initial.state) 0 (16 * l.i))
