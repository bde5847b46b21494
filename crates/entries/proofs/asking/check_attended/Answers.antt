use mathlib.Core.Path.{sym, ◌∙◌}
use native.Mathlib.Omega.{arith}
use Rattle.refusals.proofs.Answered.{number_refuses, passed_on}
use Rattle.bundle.proofs.Places.{list_first}
use Rattle.entries.proofs.Attended.{few_refuse, old_refuse, new_decide}
use Rattle.entries.proofs.asking.check_attended.Goals as goal

pub are_too_few-requires : goal.are_too_few-requires
are_too_few-requires c =
    let p = c.requires in
    (p.0, p.1, omega (arith, p.2, list_first c.args.s.now), p.3)

pub returns-then-are_too_few : goal.returns-then-are_too_few
returns-then-are_too_few c =
    let a = c.args in
    sym (few_refuse a.previous.now a.own.now a.s.now (sym c.are_too_few.ensures ∙ c.if-are_too_few.true))

pub returns-in_err-check_old_marks : goal.returns-in_err-check_old_marks
returns-in_err-check_old_marks c =
    let a = c.args in
    passed_on c.from_residual.result _ c.from_residual.ensures.1
    ∙ old_refuse a.previous.now a.own.now a.s.now (sym c.are_too_few.ensures ∙ c.if-are_too_few.false) _
    c.in_err-check_old_marks.ensures (number_refuses c.in_err-check_old_marks.field-0.0)

pub returns : goal.returns
returns c =
    let a = c.args in
    c.check_new_marks.ensures
    ∙ sym (new_decide a.previous.now a.own.now a.s.now
    (sym c.are_too_few.ensures ∙ c.if-are_too_few.false)
    (sym c.in_ok-check_old_marks.ensures))
