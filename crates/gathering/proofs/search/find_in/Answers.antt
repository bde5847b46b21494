use mathlib.Core.Path.{◌≡◌, sym, ◌∙◌}
use Prim.Native.Nat.{◌<◌}
use native.Mathlib.Omega.{arith}
use Rattle.std.proofs.Common.{rules}
use Rattle.octets.specs.Strings.{before}
use Rattle.rows.specs.Row.{label_of}
use Rattle.rows.specs.Search.{Parts}
use Rattle.rows.proofs.InOrder.{falls, parts, found_there, absent_there, absent_last}
use Rattle.roll.specs.Roll.{roll_layout}
use Rattle.roll.proofs.Spreads.{roll_spread, has_place}
use Rattle.gathering.proofs.Nearest.{roll_fits}
use Rattle.gathering.proofs.search.find_in.Goals as goal
use Rattle.gathering.proofs.search.find_in.Goals.{After-parted-i}

pub count_in-count-requires : goal.count_in-count-requires
count_in-count-requires c = roll_spread c.args.roll.now c.requires

pub parted-i-requires : goal.parted-i-requires
unfolding roll_layout
parted-i-requires c =
    let s = roll_spread c.args.roll.now c.requires in
    λ i h.
    let place = has_place c.args.roll.now s i (omega (arith, c.count_in-count.ensures)) in
    search rules

parted : (c : After-parted-i) → Parts (roll_layout.cut c.args.roll.now).count (roll_layout.cut c.args.roll.now).rows c.args.label c.parted-i.result
parted c =
    let roll = roll_layout.cut c.args.roll.now in
    let fits = roll_fits c.args.roll.now c.requires in
    parts roll.count roll.rows fits c.args.label c.parted-i.result
    (rw c.count_in-count.ensures at (c.parted-i.ensures (λ j. before (label_of roll.rows j) c.args.label) (λ i b h k. search rules)
    (rw c.count_in-count.ensures (falls roll.count roll.rows fits c.args.label))))

pub returns-then-i-count : goal.returns-then-i-count
returns-then-i-count c =
    let a = c.args in
    let roll = roll_layout.cut a.roll.now in
    sym (absent_last roll.count roll.rows (roll_fits a.roll.now c.requires) a.label c.parted-i.result (parted (goal.at.returns-then-i-count c).After-parted-i)
    (c.if-i-count.true ∙ c.count_in-count.ensures))

-- where it is not past the last, it is one of the roll's rows
below : (c : After-parted-i) → (c.parted-i.result ≡ c.count_in-count.result → ⊥) → c.parted-i.result < (roll_layout.cut c.args.roll.now).count
below c h =
    let p = parted c in
    omega (arith, p.within, h, c.count_in-count.ensures)

pub has_label-requires : goal.has_label-requires
unfolding roll_layout
has_label-requires c =
    let s = roll_spread c.args.roll.now c.requires in
    (s, has_place c.args.roll.now s _ (below (goal.at.has_label-requires c).After-parted-i c.if-i-count.false))

pub returns-then-has_label : goal.returns-then-has_label
returns-then-has_label c =
    let a = c.args in
    let roll = roll_layout.cut a.roll.now in
    let there = (goal.at.returns-then-has_label c).After-parted-i in
    sym (found_there roll.count roll.rows (roll_fits a.roll.now c.requires) a.label c.parted-i.result (parted there)
    (below there c.if-i-count.false) (sym c.has_label.ensures ∙ c.if-has_label.true))

pub returns : goal.returns
returns c =
    let a = c.args in
    let roll = roll_layout.cut a.roll.now in
    let there = (goal.at.returns c).After-parted-i in
    sym (absent_there roll.count roll.rows (roll_fits a.roll.now c.requires) a.label c.parted-i.result (parted there)
    (below there c.if-i-count.false) (sym c.has_label.ensures ∙ c.if-has_label.false))
