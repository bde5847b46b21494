use mathlib.Core.Path.{◌≡◌}
use Rattle.store.specs.Area.{newest}
use Rattle.store.proofs.scan.newest.Given as goal

abbrev pub invariant-loop-i : goal.invariant-loop-i
invariant-loop-i l = l.found ≡ newest l.area l.label l.i
