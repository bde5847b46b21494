use mathlib.Core.Path.{◌≡◌, refl, sym, ap, ◌∙◌}
use Prim.Native.Nat.{◌-◌, ◌≤◌}
use native.Mathlib.Omega.{arith}
use borrow.Author.Tests.{le-leb}
use Rattle.rows.specs.Row.{height_of}
use Rattle.rows.specs.Table.{each}
use Rattle.rows.proofs.Tables.{each_next}
use Rattle.rules.specs.Bundle.{most_added}
use Rattle.maker.specs.declared.Highest.{Highest}
use Rattle.gathering.specs.Old.{row_of}
use Rattle.composing.specs.Sizes.{need_of, lists_size}
use Rattle.composing.proofs.Lengths.{fits, size_next, size_over, size_whole}
use Rattle.composing.proofs.sizes.roll_size.Goals as goal
use Rattle.composing.proofs.sizes.roll_size.Goals.{After-need-n}

pub loop-r-init : goal.loop-r-init
unfolding each lists_size
loop-r-init c = (refl, refl, omega arith)

-- how far the row lies above the old one
needed :
    (c : After-need-n)
    → (let a = c.args in
    c.need-n.result ≡ need_of a.roll.now a.table.now c.loop-r.r)
unfolding need_of
needed c =
    let a = c.args in
    let row = c.old_row-old.ensures ∙ ap (row_of a.roll.now) c.label_at.ensures in
    c.need-n.ensures ∙ ap (λ (h : Highest). height_of a.table.now c.loop-r.r - h.height) row

pub returns-then-n-gt-MOST_ADDED : goal.returns-then-n-gt-MOST_ADDED
returns-then-n-gt-MOST_ADDED c =
    let a = c.args in
    let l = c.loop-r in
    (sym (size_over a.roll.now a.table.now a.count l.r (omega arith) (omega (arith, c.if-n-gt-MOST_ADDED.true, needed (goal.at.returns-then-n-gt-MOST_ADDED c).After-need-n))), omega arith)

pub loop-r-preserved : goal.loop-r-preserved
loop-r-preserved c =
    let a = c.args in
    let l = c.loop-r in
    let n = needed (goal.at.loop-r-preserved c).After-need-n in
    let few : need_of a.roll.now a.table.now l.r ≤ most_added = omega (arith, c.if-n-gt-MOST_ADDED.false, n) in (
      each_next (fits a.roll.now a.table.now) l.r l.invariant.0 (le-leb (need_of a.roll.now a.table.now l.r) most_added few),
      omega (arith, l.invariant.1, n, size_next a.roll.now a.table.now l.r),
      omega (arith, l.invariant.2, c.if-n-gt-MOST_ADDED.false),
    )

pub returns : goal.returns
returns c =
    let a = c.args in
    let l = c.loop-r in
    let e : l.r ≡ a.count = omega arith in
    let p = l.invariant.1 ∙ ap (lists_size a.roll.now a.table.now) e in (
      p ∙ sym (size_whole a.roll.now a.table.now a.count (rw e at l.invariant.0)),
      omega (arith, l.invariant.2, c.requires.1),
    )
