use Rattle.roll.specs.Roll.{roll_layout}
use Rattle.roll.proofs.Spreads.{roll_spread, has_place}
use Rattle.gathering.proofs.labels.is_after.Goals as goal

pub label_in-requires : goal.label_in-requires
unfolding roll_layout
label_in-requires c =
    let s = roll_spread c.args.roll.now c.requires.0 in
    (s, has_place c.args.roll.now s c.args.q c.requires.1)
