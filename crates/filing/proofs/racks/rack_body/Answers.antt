use lib.ListN.{replicate}
use Rattle.checks.specs.Check.{checked_bytes}
use mathlib.Core.Path.{◌∙◌}
use Rattle.octets.proofs.Fronts.{put_behind}
use Rattle.filing.specs.Filed.{rack_body}
use native.Mathlib.Omega.{arith}
use Rattle.filing.proofs.racks.rack_body.Goals as goal

pub returns : goal.returns
unfolding rack_body
returns c = c.copy_at.ensures ∙ put_behind (replicate checked_bytes 0) 1 c.args.rack.now (omega (arith, c.requires))
