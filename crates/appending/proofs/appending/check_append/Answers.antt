use mathlib.Core.Path.{sym, ap, ◌∙◌}
use native.Mathlib.Omega.{arith}
use borrow.Author.Tests.{eq-eqb, ne_eqb}
use Rattle.refusals.specs.Order.{first}
use Rattle.rows.specs.Row.{height_of}
use Rattle.rules.specs.Outcomes.{Lent, told_place}
use Rattle.rules.proofs.Tolds.{handed_on}
use Rattle.ledgers.proofs.Places.{findable}
use Rattle.appending.proofs.Answers.{unfound_told, found_told}
use Rattle.appending.proofs.appending.check_append.Goals as goal

pub returns-in_err-place-clause-told : goal.returns-in_err-place-clause-told
returns-in_err-place-clause-told c =
    let a = c.args in
    ap (told_place a.head 0) (handed_on _ _ c.from_residual.ensures.1) ∙ unfound_told a.size _ a.label a.expected _ c.in_err-place.ensures.answer

pub height_at-height-requires : goal.height_at-height-requires
height_at-height-requires c =
    let a = c.args in
    let k : Lent = record { head = a.head; table = a.table.now; area = a.area.now } in
    let f = findable a.size k a.label (sym c.in_ok-place.ensures.answer) in
    (omega (arith, f.place, c.in_ok-place.ensures.place), f.long)

pub returns-then-not-is_next-clause-told : goal.returns-then-not-is_next-clause-told
unfolding first
returns-then-not-is_next-clause-told c =
    let a = c.args in
    let place = c.in_ok-place.ensures in
    found_told a.size _ a.label a.expected _ 11 (c.height_at-height.ensures ∙ ap (height_of a.table.now) place.place) place.answer
    (rw (sym c.is_next.ensures ∙ c.if-not-is_next.true))

pub returns-then-height-eq-TOP-clause-told : goal.returns-then-height-eq-TOP-clause-told
unfolding first
returns-then-height-eq-TOP-clause-told c =
    let a = c.args in
    let place = c.in_ok-place.ensures in
    found_told a.size _ a.label a.expected _ 12 (c.height_at-height.ensures ∙ ap (height_of a.table.now) place.place) place.answer
    (rw (sym c.is_next.ensures ∙ c.if-not-is_next.false, eq-eqb _ _ c.if-height-eq-TOP.true))

pub returns-clause-told : goal.returns-clause-told
unfolding first
returns-clause-told c =
    let a = c.args in
    let place = c.in_ok-place.ensures in
    found_told a.size _ a.label a.expected _ 0 (c.height_at-height.ensures ∙ ap (height_of a.table.now) place.place) place.answer
    (rw (sym c.is_next.ensures ∙ c.if-not-is_next.false, ne_eqb _ _ c.if-height-eq-TOP.false))
