use mathlib.Core.Path.{refl, sym, ◌∙◌}
use borrow.Author.Tests.{eq-eqb, ne_eqb}
use Rattle.refusals.proofs.Answered.{number_refuses}
use Rattle.desk.specs.Verdict.{is_asked_for}
use Rattle.desk.proofs.Answers.{refused_broken, accepted-holds, accepted_cut}
use Rattle.desk.proofs.asking.is_asked_for.Goals as goal

pub returns-in-Err : goal.returns-in-Err
unfolding is_asked_for
returns-in-Err c rack Named-by =
    rw (sym c.is_askable.ensures ∙ c.if-not-is_askable.false, refused_broken _ _ c.in-Err.ensures (number_refuses _))

pub returns-then-number-question : goal.returns-then-number-question
unfolding is_asked_for
returns-then-number-question c rack Named-by =
    let h = accepted-holds _ _ c.in-Ok.ensures refl in
    rw (
      sym c.is_askable.ensures ∙ c.if-not-is_askable.false,
      h,
      ← (accepted_cut _ _ c.in-Ok.ensures h),
      ← c.number.ensures,
      eq-eqb _ _ c.if-number-question.true,
      ← Named-by,
    ) c.is_of.ensures

pub returns-else-number-question : goal.returns-else-number-question
unfolding is_asked_for
returns-else-number-question c rack Named-by =
    let h = accepted-holds _ _ c.in-Ok.ensures refl in
    rw (
      sym c.is_askable.ensures ∙ c.if-not-is_askable.false,
      h,
      ← (accepted_cut _ _ c.in-Ok.ensures h),
      ← c.number.ensures,
      ne_eqb _ _ c.if-number-question.false,
    )
