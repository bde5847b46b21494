use mathlib.Core.Path.{◌∙◌}
use Rattle.entering.proofs.Enters.{digested}
use Rattle.entering.proofs.heads.founded.Goals as goal

pub returns : goal.returns
returns c = let d = c.rack_digest-digest.ensures ∙ digested _ c.requires in rw d
