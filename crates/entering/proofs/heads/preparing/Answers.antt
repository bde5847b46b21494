use mathlib.Core.Path.{◌∙◌}
use Rattle.entering.proofs.Enters.{digested}
use Rattle.entering.proofs.heads.preparing.Goals as goal

pub returns : goal.returns
returns c = rw (c.rack_digest.ensures ∙ digested _ c.requires.1, c.rack_digest-2.ensures ∙ digested _ c.requires.0)
