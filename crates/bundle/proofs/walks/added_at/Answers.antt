use mathlib.Core.Path.{◌∙◌}
use Rattle.bundle.proofs.Places.{two_bytes}
use native.Mathlib.Omega.{arith}
use Rattle.std.specs.Int.{w16, from_be_bytes}
use mathlib.Core.Path.{ap}
use Rattle.bundle.proofs.walks.added_at.Goals as goal

pub returns : goal.returns
returns c = (c.from_be_bytes.ensures ∙ ap (from_be_bytes w16) c.array_at.ensures ∙ two_bytes c.args.s.now c.args.at, omega arith)
