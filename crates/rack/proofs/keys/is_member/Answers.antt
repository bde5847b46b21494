use mathlib.Core.Path.{ap, ◌∙◌}
use lib.ListN.{take}
use Rattle.rack.specs.Racks.{is_among}
use Rattle.rack.proofs.Shapes.{shaped}
use Rattle.rack.proofs.Walks.{among_is, first_keys}
use Rattle.rack.proofs.keys.is_member.Goals as goal

pub returns : goal.returns
returns c =
    c.contains.ensures.value
    ∙ among_is c.args.key (take c.min.result c.args.keys)
    ∙ ap (is_among c.args.key) (first_keys c.args.count c.min.result c.args.keys (shaped 0 c.args.keys _ c.well_formed.0).places c.min.ensures)
