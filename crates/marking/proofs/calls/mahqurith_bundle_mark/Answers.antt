use mathlib.Core.Path.{sym, ap, ◌∙◌}
use Prim.Native.Nat.{ℕ, ◌+◌}
use Rattle.bundle.proofs.Listed.{then_none, then_is}
use Rattle.marking.proofs.Told.{no_entry, no_marks, marks_set}
use Rattle.marking.proofs.calls.mahqurith_bundle_mark.Goals as goal
use Rattle.marking.proofs.calls.mahqurith_bundle_mark.Goals.{in_default-via-in-Some+else-is_marks, in_default-via-in_default}

pub returns-in-Some : goal.returns-in-Some
returns-in-Some c =
    let a = c.args in
    let p = then_is _ _ _ c.in-Some.ensures in
    marks_set a.bundle.now a.list a.number a.marks _ p.0 (sym c.is_marks.ensures ∙ c.if-is_marks.true) (ap (λ (x : ℕ). x + 1) p.1)

pub returns-in_default : goal.returns-in_default
returns-in_default c =
    let a = c.args in
    elim c.in_default.branch [
      | in_default-via-in-Some+else-is_marks w ↦
          let p = then_is _ _ _ (sym w.in-Some.is ∙ c.find_entry.ensures) in
          rw c.number.ensures (no_marks a.bundle.now a.list a.number a.marks p.0 (sym w.is_marks.ensures ∙ w.if-is_marks.false))
      | in_default-via-in_default w ↦
          rw c.number.ensures (no_entry a.bundle.now a.list a.number a.marks (then_none _ _ (sym w.in_default.is ∙ c.find_entry.ensures)))
    ]
