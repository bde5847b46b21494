use mathlib.Core.Path.{ap, ◌∙◌}
use Rattle.octets.specs.Strings.{all_zero}
use Rattle.roll.specs.Roll.{roll_layout}
use Rattle.roll.proofs.Spreads.{row_lies, place_stands}
use Rattle.roll.proofs.standing.is_unused.Goals as goal

pub row_at-at-requires : goal.row_at-at-requires
row_at-at-requires c = let start = c in (row_lies start.args.s.now start.requires.0 start.args.i start.requires.1).1

pub returns : goal.returns
unfolding roll_layout
returns c =
    let start = c in
    c.is_zero.ensures ∙ ap all_zero (place_stands start.args.s.now start.requires.0 start.args.i _ c.row_at-at.ensures start.requires.1)
