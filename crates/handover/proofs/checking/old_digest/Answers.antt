use mathlib.Core.Path.{ap, ◌∙◌}
use Rattle.octets.specs.Layouts.{holds}
use Rattle.roll.specs.Roll.{roll_layout}
use Rattle.roll.proofs.Spreads.{roll_spread}
use Rattle.handover.proofs.checking.old_digest.Goals as goal

pub digest_in-requires : goal.digest_in-requires
digest_in-requires c = roll_spread _ (ap (holds roll_layout) c.old_roll.ensures ∙ c.requires.2)
