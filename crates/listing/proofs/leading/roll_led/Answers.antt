use mathlib.Core.Path.{◌≡◌, refl, sym, ap, ◌∙◌}
use Prim.Native.Nat.{ℕ}
use native.Mathlib.Omega.{arith}
use Rattle.rows.specs.Row.{label_of}
use Rattle.rows.specs.Table.{each}
use Rattle.rows.proofs.Tables.{each_next, each_fails}
use Rattle.roll.specs.Roll.{roll_layout}
use Rattle.roll.specs.Places.{Spread}
use Rattle.roll.proofs.Spreads.{has_place}
use Rattle.maker.specs.Lists.{led, roll_led}
use Rattle.gathering.proofs.Walks.{roll_spreads}
use Rattle.listing.proofs.leading.roll_led.Goals as goal
use Rattle.listing.proofs.leading.roll_led.Goals.{Start}

-- the roll's blocks are those that its count asks
spread : (c : Start) → Spread c.args.roll.now
spread c = rw c.requires.4 (roll_spreads c.requires.0 c.args.n c.requires.2)

pub count_in-q-end-requires : goal.count_in-q-end-requires
count_in-q-end-requires c = spread (goal.at.count_in-q-end-requires c).Start

pub loop-q-init : goal.loop-q-init
unfolding each
loop-q-init c = refl

pub label_in-requires : goal.label_in-requires
unfolding roll_layout
label_in-requires c = (
  spread (goal.at.label_in-requires c).Start,
  has_place c.args.roll.now (spread (goal.at.label_in-requires c).Start)
      c.loop-q.q (omega (arith, c.count_in-q-end.ensures)),
)

pub returns-then-not-is_led : goal.returns-then-not-is_led
unfolding roll_led
returns-then-not-is_led c =
    let a = c.args in
    let l = c.loop-q in
    let test : c.is_led.result ≡ led a.e.now a.store.now (label_of (roll_layout.cut a.roll.now).rows l.q) =
    c.is_led.ensures ∙ ap (led a.e.now a.store.now) c.label_in.ensures in
    sym
    (rw c.requires.4 at
    (each_fails (λ (q : ℕ). led a.e.now a.store.now (label_of (roll_layout.cut a.roll.now).rows q)) (roll_layout.cut a.roll.now).count
    l.q
    (omega (arith, c.count_in-q-end.ensures)) (sym test ∙ c.if-not-is_led.true)))

pub loop-q-preserved : goal.loop-q-preserved
loop-q-preserved c =
    let a = c.args in
    let l = c.loop-q in
    let test : c.is_led.result ≡ led a.e.now a.store.now (label_of (roll_layout.cut a.roll.now).rows l.q) =
    c.is_led.ensures ∙ ap (led a.e.now a.store.now) c.label_in.ensures in
    each_next (λ (q : ℕ). led a.e.now a.store.now (label_of (roll_layout.cut a.roll.now).rows q)) l.q l.invariant
    (sym test ∙ c.if-not-is_led.false)

pub returns : goal.returns
unfolding roll_led
returns c =
    let a = c.args in
    let l = c.loop-q in
    let e : l.q ≡ (roll_layout.cut a.roll.now).count = omega (arith, c.count_in-q-end.ensures) in
    sym (rw c.requires.4 at (rw e at l.invariant))
