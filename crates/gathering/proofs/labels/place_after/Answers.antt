use mathlib.Core.Path.{◌≡◌, sym, ap, ◌∙◌}
use mathlib.Core.Bool.{not}
use native.Mathlib.Omega.{arith}
use Rattle.rows.proofs.Tables.{each_next}
use Rattle.roll.specs.Roll.{roll_layout}
use Rattle.roll.proofs.Spreads.{roll_spread}
use Rattle.gathering.specs.Old.{up_to}
use Rattle.gathering.proofs.labels.place_after.Goals as goal

pub count_in-q-end-requires : goal.count_in-q-end-requires
count_in-q-end-requires c = roll_spread c.args.roll.now c.requires

pub guessed-q-requires : goal.guessed-q-requires
guessed-q-requires c = c.requires

pub loop-q-init : goal.loop-q-init
loop-q-init c = c.guessed-q.ensures.1

pub is_after-requires : goal.is_after-requires
is_after-requires c = (c.requires, omega (arith, c.count_in-q-end.ensures))

pub returns-then-is_after : goal.returns-then-is_after
returns-then-is_after c =
    let l = c.loop-q in
    (omega (arith, c.count_in-q-end.ensures), sym c.is_after.ensures ∙ c.if-is_after.true, l.invariant)

pub loop-q-preserved : goal.loop-q-preserved
unfolding up_to
loop-q-preserved c =
    let a = c.args in
    let l = c.loop-q in
    each_next (up_to (roll_layout.cut a.roll.now).rows a.last) l.q l.invariant (ap not (sym c.is_after.ensures ∙ c.if-is_after.false))

pub returns : goal.returns
returns c =
    let l = c.loop-q in
    let e : l.q ≡ (roll_layout.cut c.args.roll.now).count = omega (arith, c.count_in-q-end.ensures, c.guessed-q.ensures.0) in
    rw (← e) l.invariant
