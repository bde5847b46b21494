use mathlib.Core.Path.{sym, ◌∙◌}
use native.Mathlib.Omega.{arith}
use Rattle.rack.proofs.RackTrips.{rack_length}
use Rattle.desk.proofs.judging.check_verdict.Goals as goal

pub bounds-rack-0 : goal.bounds-rack-0
bounds-rack-0 c = omega (arith, rack_length _ (sym c.is_rack.ensures ∙ c.if-not-is_rack.false))
