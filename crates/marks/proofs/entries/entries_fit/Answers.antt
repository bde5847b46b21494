use mathlib.Core.Path.{◌≡◌, refl, sym, ap, ap₂, ◌∙◌}
use mathlib.Core.Bool.{◌&&◌}
use Prim.Native.Nat.{ℕ, ◌+◌, ◌/◌}
use lib.ListN.{length}
use lib.Dec.{ltb, leb}
use borrow.Author.Rules.{rules}
use native.Mathlib.Omega.{arith}
use Rattle.std.proofs.lemmas.List.{length_push}
use Rattle.marks.specs.{marks_fit}
use Rattle.marks.specs.Entries.{entry_fits, entries_fit, pair_position, pair_marks}
use Rattle.marks.proofs.Listed.{lowest, lowest_next, entry_by_lowest, one_more, one_fails}
use Rattle.marks.proofs.Pairs.{pair_within, pair_first, pair_second, pairs_within, pairs_left, pairs_over}
use Rattle.marks.proofs.entries.entries_fit.Goals as goal
use Rattle.marks.proofs.entries.entries_fit.Goals.{After-entry_fits}

pub loop-pair-init : goal.loop-pair-init
unfolding lowest entries_fit
loop-pair-init c = (search rules, omega arith, search rules, refl, refl)

long : (c : After-entry_fits) → length c.in-Some.pair.now ≡ 2
long c = c.in-Some.ensures.steps.1.1 ∙ c.loop-pair.invariant.0

-- this turn's entry, by its place in the list
entry :
    (c : After-entry_fits)
    → entry_fits c.args.n (pair_position c.args.s.now) (pair_marks c.args.s.now) (length c.loop-pair.yielded) ≡ c.entry_fits.result
entry c =
    let s = c.args.s.now in
    let i = length c.loop-pair.yielded in
    let n : ℕ = c.args.n in
    let low : ℕ = c.loop-pair.low in
    let k = c.loop-pair.invariant in
    let st = c.in-Some.ensures.steps in
    entry_by_lowest n (pair_position s) (pair_marks s) i low k.3
    ∙ ap₂ (λ (p m : ℕ). ltb p n && leb low p && marks_fit m)
    (sym (pair_first s i _ c.in-Some.pair.now _ k.2 st.1.0 (long c))) (sym (pair_second s i _ c.in-Some.pair.now _ k.2 st.1.0 (long c)))
    ∙ sym c.entry_fits.ensures

pub returns-then-not-entry_fits : goal.returns-then-not-entry_fits
returns-then-not-entry_fits c =
    let s = c.args.s.now in
    let i = length c.loop-pair.yielded in
    let k = c.loop-pair.invariant in
    let st = c.in-Some.ensures.steps in
    let d = (goal.at.returns-then-not-entry_fits c).After-entry_fits in
    sym (one_fails c.args.n (pair_position s) (pair_marks s) (length s / 2) i
    (pair_within s i _ c.in-Some.pair.now _ k.2 st.1.0 (long d)) (entry d ∙ c.if-not-entry_fits.true))

pub loop-pair-preserved : goal.loop-pair-preserved
loop-pair-preserved c =
    let s = c.args.s.now in
    let i = length c.loop-pair.yielded in
    let k = c.loop-pair.invariant in
    let st = c.in-Some.ensures.steps in
    let d = (goal.at.loop-pair-preserved c).After-entry_fits in
    let x = c.in-Some.pair.now in
    let low = ap (λ (p : ℕ). p + 1) (pair_first s i _ x _ k.2 st.1.0 (long d)) ∙ sym (lowest_next (pair_position s) i) in
    rw (length_push c.loop-pair.yielded c.in-Some.pair) (
      st.0 ∙ k.0,
      pairs_within s i _ x _ k.2 st.1.0 (long d),
      pairs_left s i _ x _ k.2 st.1.0 (long d),
      ap (λ (p : ℕ). p + 1) c.from-low.ensures ∙ low,
      one_more c.args.n (pair_position s) (pair_marks s) i k.4 (entry d ∙ c.if-not-entry_fits.false),
    )

pub returns : goal.returns
returns c =
    let k = c.loop-pair.invariant in
    let st = c.in-None.ensures.steps in
    let s = c.args.s.now in
    let over : length c.loop-pair.yielded ≡ length s / 2 = pairs_over s _ _ k.2 k.1 (omega arith) in
    sym (rw over at k.4)
