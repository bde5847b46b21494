use mathlib.Core.Path.{ap, ◌∙◌}
use Rattle.octets.specs.Strings.{put}
use Rattle.octets.proofs.Numbers.{high_first}
use Rattle.octets.proofs.number.put_number.Goals as goal

pub returns : goal.returns
returns c = c.copy_at.ensures ∙ ap (put c.args.s.now c.args.at) (c.to_be_bytes.ensures ∙ high_first 8 c.args.x)
