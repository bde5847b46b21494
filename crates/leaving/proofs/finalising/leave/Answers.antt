use mathlib.Core.Path.{ap, ◌∙◌}
use Rattle.rack.specs.Racks.{rack_digest}
use Rattle.rack.proofs.RackTrips.{rack_whole}
use Rattle.leaving.proofs.finalising.leave.Goals as goal

pub returns : goal.returns
returns c = rw (c.rack_digest.ensures ∙ ap rack_digest (rack_whole _ c.requires))
