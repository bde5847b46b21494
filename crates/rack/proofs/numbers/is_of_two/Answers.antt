use mathlib.Core.Path.{refl, ◌∙◌}
use Rattle.rack.proofs.Walks.{first_two}
use Rattle.rack.proofs.numbers.is_of_two.Goals as goal

pub returns : goal.returns
returns c = c.eq.ensures ∙ first_two c.args.rack.now c.first.result _ refl c.first.ensures.value
