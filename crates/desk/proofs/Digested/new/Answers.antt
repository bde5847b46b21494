use mathlib.Core.Path.{ap, ◌∙◌}
use Rattle.rack.specs.Racks.{rack_digest}
use Rattle.rack.proofs.RackTrips.{rack_whole}
use Rattle.desk.proofs.Digested.new.Goals as goal

pub invariant_of-result : goal.invariant_of-result
invariant_of-result c = record { digested = λ h. c.rack_digest-digest.ensures ∙ ap rack_digest (rack_whole c.args.rack.now h) }
