use Rattle.std.proofs.Common.{◌-◌, ◌≡◌, ◌≤◌, length}
use Rattle.vectors.proofs.file.fill.Given as goal

abbrev pub invariant-loop-done : goal.invariant-loop-done
invariant-loop-done g l = (length l.room ≡ 524288) × (l.done ≤ 524288)

abbrev pub decreases-loop-done : goal.decreases-loop-done
decreases-loop-done g l = 524288 - l.done
