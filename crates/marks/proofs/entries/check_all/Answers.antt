use mathlib.Core.Path.{◌≡◌, refl, sym, ap, ◌∙◌}
use Prim.Native.Nat.{ℕ, ◌/◌}
use lib.ListN.{length}
use borrow.Author.Rules.{rules}
use native.Mathlib.Omega.{arith}
use Rattle.std.proofs.lemmas.List.{length_push}
use Rattle.refusals.specs.{accepted}
use Rattle.refusals.specs.Order.{first}
use Rattle.refusals.specs.Refused.{refusal_number}
use Rattle.refusals.proofs.Answered.{number_some, number_refuses, passed_on}
use Rattle.marks.specs.Entries.{mark_tests, marks_tests, pair_marks}
use Rattle.marks.proofs.Pairs.{pair_within, pair_second, pairs_within, pairs_left, pairs_over}
use Rattle.marks.proofs.Refused.{unrefused_more, refused_at}
use Rattle.marks.proofs.entries.check_all.Goals as goal

pub loop-pair-init : goal.loop-pair-init
unfolding first marks_tests
loop-pair-init c = (search rules, omega arith, search rules, refl)

pub loop-pair-preserved : goal.loop-pair-preserved
loop-pair-preserved c =
    let i = length c.loop-pair.yielded in
    let s = c.args.s.now in
    let st = c.in-Some.ensures.steps in
    let k = c.loop-pair.invariant in
    let l : length c.in-Some.pair.now ≡ 2 = st.1.1 ∙ k.0 in
    let left = pairs_left s i _ c.in-Some.pair.now _ k.2 st.1.0 l in
    let n = length_push c.loop-pair.yielded c.in-Some.pair in
    let r = refusal_number c.args.invalid in
    let e : first (mark_tests r (pair_marks s i)) ≡ accepted =
    ap (λ (m : ℕ). first (mark_tests r m)) (sym (pair_second s i _ c.in-Some.pair.now _ k.2 st.1.0 l)) ∙ sym c.in_ok-check_marks.ensures in
    rw n (
      st.0 ∙ k.0,
      pairs_within s i _ c.in-Some.pair.now _ k.2 st.1.0 l,
      left,
      unrefused_more r (number_some c.args.invalid) (pair_marks s) i k.3 e,
    )

pub returns-in_err-check_marks : goal.returns-in_err-check_marks
returns-in_err-check_marks c =
    let i = length c.loop-pair.yielded in
    let s = c.args.s.now in
    let st = c.in-Some.ensures.steps in
    let k = c.loop-pair.invariant in
    let l : length c.in-Some.pair.now ≡ 2 = st.1.1 ∙ k.0 in
    let e = c.in_err-check_marks.ensures
    ∙ ap (λ (m : ℕ). first (mark_tests (refusal_number c.args.invalid) m)) (pair_second s i _ c.in-Some.pair.now _ k.2 st.1.0 l) in
    passed_on c.from_residual.result _ c.from_residual.ensures.1
    ∙ refused_at (refusal_number c.args.invalid) (number_some c.args.invalid) (pair_marks s) (length s / 2) i _
    (pair_within s i _ c.in-Some.pair.now _ k.2 st.1.0 l) k.3 e (number_refuses c.in_err-check_marks.field-0.0)

pub returns : goal.returns
returns c =
    let k = c.loop-pair.invariant in
    let st = c.in-None.ensures.steps in
    let s = c.args.s.now in
    let over : length c.loop-pair.yielded ≡ length s / 2 = pairs_over s _ _ k.2 k.1 (omega arith) in
    sym (rw over at k.3)
