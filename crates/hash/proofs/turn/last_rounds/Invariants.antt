use Rattle.std.proofs.Common.{◌≡◌, ◌-◌, ◌*◌}
use Rattle.hash.specs.Sha256.{sha_256}
use Rattle.hash.specs.Turns.{eight, reads, steps}
use Rattle.hash.proofs.turn.last_rounds.Given as goal

abbrev pub invariant-loop-i : goal.invariant-loop-i
invariant-loop-i l = eight l.state ≡ steps (reads sha_256 l.w) (eight l.initial.state) 48 (4 * l.i - 48)
