use Rattle.std.proofs.Common.{◌≤◌}
use Rattle.vectors.proofs.messages.run.Given as goal

abbrev pub invariant-loop-i : goal.invariant-loop-i
invariant-loop-i l = l.differ ≤ l.i
