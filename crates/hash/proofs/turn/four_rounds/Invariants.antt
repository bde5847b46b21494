use Rattle.std.proofs.Common.{◌≡◌, ◌-◌}
use Rattle.hash.specs.Sha256.{sha_256}
use Rattle.hash.specs.Turns.{eight, reads, steps}
use Rattle.hash.proofs.turn.four_rounds.Given as goal

abbrev pub invariant-loop-u : goal.invariant-loop-u
invariant-loop-u l = eight l.state ≡ steps (reads sha_256 l.w) (eight l.initial.state) l.t (l.u - l.t)
