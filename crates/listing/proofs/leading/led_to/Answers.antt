use mathlib.Core.Path.{◌≡◌, refl, sym, ap, ap₂, ◌∙◌}
use mathlib.Core.List.{List}
use Prim.Native.Nat.{ℕ}
use native.Mathlib.Omega.{arith}
use lib.ListN.{length}
use Rattle.std.proofs.lemmas.List.{length_push}
use Rattle.rows.specs.Table.{each}
use Rattle.rows.proofs.Tables.{each_next, each_fails}
use Rattle.rules.specs.Bundle.{old_count, old_roll}
use Rattle.bundle.specs.Rolls.{rolls_left}
use Rattle.bundle.proofs.RollsLeft.{Given_next, start, given, ended}
use Rattle.maker.specs.Lists.{leads, led}
use Rattle.gathering.specs.Old.{row_of}
use Rattle.gathering.proofs.Walks.{roll_holds}
use Rattle.listing.specs.Leading.{leads_on}
use Rattle.listing.proofs.Led.{leads_is, lower}
use Rattle.listing.proofs.leading.led_to.Goals as goal
use Rattle.listing.proofs.leading.led_to.Goals.{After-leads_on, After-old_row, In-Some}

pub loop-roll-init : goal.loop-roll-init
unfolding each
loop-roll-init c =
    let e = c.args.e.now in
    record { given = omega arith; left = ap rolls_left c.into_iter-roll-iterator.ensures.into_iter_gives ∙ c.of-roll-items.ensures ∙ start e; led = refl }

turn : (c : In-Some) → Given_next c.args.e.now (length c.loop-roll.yielded) c.in-Some.roll.now (rolls_left c.next.new.self)
turn c = given _ _ _ _ (sym c.loop-roll.invariant.left ∙ c.in-Some.ensures.steps)

pub old_row-requires : goal.old_row-requires
old_row-requires c = let t = turn c in rw t.roll_is (roll_holds c.requires.0 _ t.below)

-- the row that the walk finds
row : (c : After-old_row) → c.old_row.result ≡ row_of (old_roll c.args.e.now (length c.loop-roll.yielded)) c.args.label
row c = c.old_row.ensures ∙ ap (λ (roll : List ℕ). row_of roll c.args.label) (turn (goal.at.After-old_row c).In-Some).roll_is

pub leads_on-requires : goal.leads_on-requires
leads_on-requires c =
    let a = c.args in
    let t = turn (goal.at.leads_on-requires c).In-Some in
    (c.requires.1, rw (row c, c.requires.2) (lower a.e.now a.store.now a.label (length c.loop-roll.yielded) c.requires.0.rolls t.below))

-- what the row leads to
leading : (c : After-leads_on) → c.leads_on.result ≡ leads c.args.e.now c.args.store.now c.args.label (length c.loop-roll.yielded)
leading c =
    let a = c.args in
    c.leads_on.ensures
    ∙ ap₂ (leads_on a.store.now a.label) (row (goal.at.After-leads_on c).After-old_row) c.requires.2
    ∙ leads_is a.e.now a.store.now a.label (length c.loop-roll.yielded)

pub returns-then-not-leads_on : goal.returns-then-not-leads_on
unfolding led
returns-then-not-leads_on c =
    let a = c.args in
    let t = turn (goal.at.returns-then-not-leads_on c).In-Some in
    sym (each_fails (leads a.e.now a.store.now a.label) (old_count a.e.now) (length c.loop-roll.yielded) t.below
    (sym (leading (goal.at.returns-then-not-leads_on c).After-leads_on) ∙ c.if-not-leads_on.true))

pub loop-roll-preserved : goal.loop-roll-preserved
loop-roll-preserved c =
    let a = c.args in
    let l = c.loop-roll in
    let t = turn (goal.at.loop-roll-preserved c).In-Some in
    rw (length_push l.yielded c.in-Some.roll)
    (record {
      given = omega (arith, t.below);
      left = t.left_is;
      led = each_next (leads a.e.now a.store.now a.label) (length l.yielded) l.invariant.led
          (sym (leading (goal.at.loop-roll-preserved c).After-leads_on) ∙ c.if-not-leads_on.false);
    })

pub returns : goal.returns
unfolding led
returns c =
    let l = c.loop-roll in
    let e = ended c.args.e.now (length l.yielded) l.invariant.given (sym l.invariant.left ∙ c.in-None.ensures.steps.0) in
    sym (rw e at l.invariant.led)
