use mathlib.Core.Path.{sym, ap, ◌∙◌}
use Rattle.roll.specs.Roll.{roll_layout}
use Rattle.roll.proofs.Spreads.{roll_spread, has_place}
use Rattle.maker.specs.Rolls.{nearest}
use Rattle.gathering.proofs.Nearest.{roll_fits, stays, nearest_found}
use Rattle.gathering.proofs.labels.nearest_in.Goals as goal

pub place_after-requires : goal.place_after-requires
place_after-requires c = c.requires

pub returns-in-None : goal.returns-in-None
returns-in-None c =
    let a = c.args in
    sym (stays (roll_layout.cut a.roll.now) (roll_fits a.roll.now c.requires) a.last a.best _ (rw c.in-None.is at c.place_after.ensures))

pub label_in-requires : goal.label_in-requires
unfolding roll_layout
label_in-requires c =
    let s = roll_spread c.args.roll.now c.requires in
    let after = rw c.in-Some.is at c.place_after.ensures in
    (s, has_place c.args.roll.now s c.in-Some.q after.0)

pub returns-in-Some : goal.returns-in-Some
returns-in-Some c =
    let a = c.args in
    let after = rw c.in-Some.is at c.place_after.ensures in
    c.nearer.ensures ∙ ap (nearest a.last a.best) c.label_in.ensures
    ∙ sym (nearest_found (roll_layout.cut a.roll.now) (roll_fits a.roll.now c.requires) a.last
    a.best c.in-Some.q after.0 after.2 after.1)
