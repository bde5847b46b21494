use mathlib.Core.Path.{◌≡◌, refl, sym, ◌∙◌}
use Prim.Native.Nat.{◌<◌}
use native.Mathlib.Omega.{arith}
use Rattle.rows.specs.Table.{each}
use Rattle.rows.proofs.Tables.{each_next, each_fails}
use Rattle.rules.specs.Bundle.{old_count, old_at}
use Rattle.bundle.proofs.Places.{old_step}
use Rattle.maker.specs.Lists.{roll_led, all_led}
use Rattle.gathering.proofs.Walks.{entry_lies, head_lies, roll_cut}
use Rattle.listing.proofs.leading.all_led.Goals as goal
use Rattle.listing.proofs.leading.all_led.Goals.{In-loop-i}

pub loop-i-init : goal.loop-i-init
unfolding old_at each
loop-i-init c = (refl, refl)

below : (c : In-loop-i) → c.loop-i.i < old_count c.args.e.now
below c = omega (arith, c.old_count-i-end.ensures)

pub roll_at-requires : goal.roll_at-requires
roll_at-requires c = (
  entry_lies c.requires.0 c.loop-i.i c.loop-i.at c.loop-i.invariant.0 (below c),
  c.requires.0.short,
)

pub roll_led-requires : goal.roll_led-requires
roll_led-requires c =
    let l = c.loop-i in (
      c.requires.0,
      c.requires.1,
      below (goal.at.roll_led-requires c).In-loop-i,
      l.invariant.1,
      c.roll_at.ensures ∙ roll_cut c.args.e.now l.i l.at l.invariant.0,
    )

pub returns-then-not-roll_led : goal.returns-then-not-roll_led
unfolding all_led
returns-then-not-roll_led c =
    let a = c.args in
    sym (each_fails (roll_led a.e.now a.store.now) (old_count a.e.now) c.loop-i.i
    (below (goal.at.returns-then-not-roll_led c).In-loop-i) (sym c.roll_led.ensures ∙ c.if-not-roll_led.true))

pub next_old-at-requires : goal.next_old-at-requires
next_old-at-requires c = (
  head_lies c.requires.0 c.loop-i.i
      c.loop-i.at c.loop-i.invariant.0 (below (goal.at.next_old-at-requires c).In-loop-i),
  c.requires.0.short,
)

pub loop-i-preserved : goal.loop-i-preserved
loop-i-preserved c =
    let a = c.args in
    let l = c.loop-i in (
      old_step a.e.now l.i l.at l.invariant.0 c.next_old-at.ensures,
      each_next (roll_led a.e.now a.store.now) l.i l.invariant.1 (sym c.roll_led.ensures ∙ c.if-not-roll_led.false),
    )

pub returns : goal.returns
unfolding all_led
returns c =
    let l = c.loop-i in
    let e : l.i ≡ old_count c.args.e.now = omega (arith, c.old_count-i-end.ensures) in
    sym (rw e at l.invariant.1)
