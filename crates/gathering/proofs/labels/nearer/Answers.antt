use mathlib.Core.Path.{sym, ◌∙◌}
use Rattle.gathering.proofs.Walks.{not_after, first_found, nearer_found, farther}
use Rattle.gathering.proofs.labels.nearer.Goals as goal
use Rattle.gathering.proofs.labels.nearer.Goals.{then-is_zero-via-then-is_zero, then-is_zero-via-else-is_zero+then-is_before}

pub returns-then-not-is_before : goal.returns-then-not-is_before
returns-then-not-is_before c =
    let a = c.args in
    sym (not_after a.last a.best a.label (sym c.is_before.ensures ∙ c.if-not-is_before.true))

pub returns-then-is_zero : goal.returns-then-is_zero
returns-then-is_zero c =
    let a = c.args in
    let later = sym c.is_before.ensures ∙ c.if-not-is_before.false in
    elim c.then-is_zero.branch [
      | then-is_zero-via-then-is_zero w ↦
          sym (first_found a.last a.best a.label later (sym c.is_zero.ensures ∙ w.if-is_zero.true))
      | then-is_zero-via-else-is_zero+then-is_before w ↦
          sym (nearer_found a.last a.best a.label later (sym c.is_zero.ensures ∙ w.if-is_zero.false) (sym w.is_before-else-is_zero.ensures ∙ w.if-is_before.true))
    ]

pub returns : goal.returns
returns c =
    let a = c.args in
    sym (farther a.last a.best a.label
    (sym c.is_before.ensures ∙ c.if-not-is_before.false)
    (sym c.is_zero.ensures ∙ c.if-is_zero.false)
    (sym c.is_before-else-is_zero.ensures ∙ c.if-is_before.false))
