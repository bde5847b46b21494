use mathlib.Core.Bool.{◌&&◌}
use mathlib.Core.Path.{◌≡◌}
use lib.Dec.{eqb}
use lib.ListN.{drop}
use Rattle.octets.specs.Strings.{all_zero}
use Rattle.octets.proofs.compare.is_zero.Given as goal

abbrev pub invariant-loop-b : goal.invariant-loop-b
invariant-loop-b l = all_zero l.s ≡ (eqb l.seen 0 && all_zero (drop l.b-index l.s))
