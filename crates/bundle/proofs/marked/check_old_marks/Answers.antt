use mathlib.Core.Path.{◌≡◌, refl, sym, ap, ◌∙◌}
use mathlib.Core.List.{List}
use Prim.Native.Nat.{ℕ, ◌+◌}
use native.Mathlib.Omega.{arith}
use Rattle.refusals.specs.Order.{first}
use Rattle.refusals.specs.Refused.{refusal_number}
use Rattle.refusals.proofs.Answered.{number_some, number_refuses, passed_on}
use Rattle.marks.specs.Entries.{mark_tests, marks_tests}
use Rattle.marks.proofs.Refused.{unrefused_more, refused_at}
use Rattle.rules.specs.Bundle.{byte, old_count, old_at, old_marks}
use Rattle.bundle.proofs.Places.{new_some, old_step, old_before_new}
use Rattle.bundle.proofs.marked.check_old_marks.Goals as goal

-- the marks that are tested are those of the entry
module _ (s : List ℕ) (number i at : ℕ) (placed : at ≡ old_at s i) where
  entered : first (mark_tests number (byte s (at + 1))) ≡ first (mark_tests number (old_marks s i))
  entered = ap (λ (x : ℕ). first (mark_tests number (byte s (x + 1)))) placed

pub old_count-end-requires : goal.old_count-end-requires
old_count-end-requires c = omega (arith, new_some c.args.s.now)

pub loop-init : goal.loop-init
unfolding old_at first marks_tests
loop-init c = record { placed = refl; valid = refl }

pub overflow_add-at : goal.overflow_add-at
overflow_add-at c = omega (arith, old_before_new c.args.s.now c.loop.counter (omega (arith, c.old_count-end.ensures)))

pub bounds-s-at : goal.bounds-s-at
bounds-s-at c = omega (arith, old_before_new c.args.s.now c.loop.counter (omega (arith, c.old_count-end.ensures)))

pub returns-in_err-check_marks : goal.returns-in_err-check_marks
returns-in_err-check_marks c =
    let s = c.args.s.now in
    let l = c.loop in
    let n = refusal_number c.args.invalid in
    passed_on c.from_residual.result _ c.from_residual.ensures.1
    ∙ refused_at n (number_some c.args.invalid) (old_marks s) (old_count s) l.counter _ (omega (arith, c.old_count-end.ensures)) l.invariant.valid
    (c.in_err-check_marks.ensures ∙ entered s n l.counter l.at l.invariant.placed) (number_refuses c.in_err-check_marks.field-0.0)

pub next_old-at-requires : goal.next_old-at-requires
next_old-at-requires c =
    (omega (arith, old_before_new c.args.s.now c.loop.counter (omega (arith, c.old_count-end.ensures))), c.requires.1)

pub loop-preserved : goal.loop-preserved
loop-preserved c =
    let s = c.args.s.now in
    let l = c.loop in
    let n = refusal_number c.args.invalid in
    let valid = sym (entered s n l.counter l.at l.invariant.placed) ∙ sym c.in_ok-check_marks.ensures in record {
      placed = old_step s l.counter l.at l.invariant.placed c.next_old-at.ensures;
      valid = unrefused_more n (number_some c.args.invalid) (old_marks s) l.counter l.invariant.valid valid;
    }
