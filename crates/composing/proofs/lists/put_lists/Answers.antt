use mathlib.Core.Path.{◌≡◌, refl, sym, ap, ap₂, ◌∙◌}
use mathlib.Core.List.{List, ◌++◌}
use Prim.Native.Nat.{ℕ, ◌+◌, ◌-◌, ◌*◌, ◌≤◌}
use native.Mathlib.Omega.{arith}
use lib.ListN.{length}
use Rattle.octets.specs.Numbers.{bytes_of}
use Rattle.octets.specs.Strings.{put}
use Rattle.octets.proofs.Fronts.{put_none}
use Rattle.octets.proofs.Puts.{put-put, put-length}
use Rattle.rows.specs.Row.{label_of, height_of}
use Rattle.maker.specs.declared.Highest.{Highest}
use Rattle.maker.specs.Lists.{listed}
use Rattle.gathering.specs.Old.{row_of}
use Rattle.composing.specs.Sizes.{need_of}
use Rattle.composing.specs.Written.{lists_by}
use Rattle.composing.proofs.Lengths.{list_long}
use Rattle.composing.proofs.Putting.{list, lists_next, next_long, lists_within}
use Rattle.composing.proofs.lists.put_lists.Goals as goal
use Rattle.composing.proofs.lists.put_lists.Goals.{After-need-n, After-old_row-old}

pub loop-r-init : goal.loop-r-init
unfolding lists_by
loop-r-init c = (omega arith, sym (put_none c.args.area.now c.args.at))

-- the height of the old row
height :
    (c : After-old_row-old)
    → (let a = c.args in
    c.old_row-old.result.height ≡ (row_of a.roll.now (label_of a.table.now c.loop-r.r)).height)
height c =
    let a = c.args in
    ap (λ (h : Highest). h.height) (c.old_row-old.ensures ∙ ap (row_of a.roll.now) c.label_at-label.ensures)

-- how far the row lies above it
needed :
    (c : After-need-n)
    → (let a = c.args in
    c.need-n.result ≡ need_of a.roll.now a.table.now c.loop-r.r)
unfolding need_of
needed c =
    let a = c.args in
    c.need-n.ensures ∙ ap (λ (h : ℕ). height_of a.table.now c.loop-r.r - h) (height (goal.at.After-need-n c).After-old_row-old)

-- the list has room
room :
    (c : After-need-n)
    → (c.loop-r.place + (2 + 32 * c.need-n.result) ≤ length
    c.args.area.now)
    × (length c.loop-r.area
    ≡ length c.args.area.now)
room c =
    let a = c.args in
    let l = c.loop-r in
    let w = lists_within a.roll.now a.store.now a.table.now l.r a.count (omega arith) in (
      omega (arith, l.invariant.0, needed c, w, c.requires.5),
      ap length l.invariant.1
          ∙ put-length a.area.now a.at (lists_by a.roll.now a.store.now a.table.now l.r)
          (omega (arith, w, c.requires.5)),
    )

pub put_list-requires : goal.put_list-requires
put_list-requires c =
    let a = c.args in
    let l = c.loop-r in
    let f = c.requires.4 l.r (omega arith) in
    let n = needed (goal.at.put_list-requires c).After-need-n in
    let h = height (goal.at.put_list-requires c).After-old_row-old in (
      c.requires.1,
      rw (c.label_at-label.ensures, h, n) f.answers,
      omega (arith, n, f.few),
      omega (arith, n, h, f.low),
      omega (arith, (room (goal.at.put_list-requires c).After-need-n).0, (room (goal.at.put_list-requires c).After-need-n).1),
    )

pub overflow_mul-place : goal.overflow_mul-place
overflow_mul-place c = omega (arith, (room (goal.at.overflow_mul-place c).After-need-n).0)

pub overflow_add-place : goal.overflow_add-place
overflow_add-place c = omega (arith, (room (goal.at.overflow_add-place c).After-need-n).0)

pub overflow_add-place-in-loop-r : goal.overflow_add-place-in-loop-r
overflow_add-place-in-loop-r c = omega (arith, (room (goal.at.overflow_add-place-in-loop-r c).After-need-n).0)

pub loop-r-preserved : goal.loop-r-preserved
loop-r-preserved c =
    let a = c.args in
    let l = c.loop-r in
    let roll = a.roll.now in
    let s = a.store.now in
    let t = a.table.now in
    let n = needed (goal.at.loop-r-preserved c).After-need-n in
    let made :
    bytes_of 2 c.need-n.result ++ listed s c.label_at-label.result
    c.old_row-old.result.height c.need-n.result ≡ list roll s t l.r =
    rw (c.label_at-label.ensures, height (goal.at.loop-r-preserved c).After-old_row-old, n) in
    let w = lists_within roll s t l.r a.count (omega arith) in (
      omega (arith, l.invariant.0, n, next_long roll s t l.r),
      c.put_list.ensures ∙ ap (λ (x : List ℕ). put l.area l.place x) made
          ∙ ap₂ (λ (x : List ℕ) (p : ℕ). put x p (list roll s t l.r)) l.invariant.1 l.invariant.0
          ∙ put-put a.area.now a.at (lists_by roll s t l.r) (list roll s t l.r) (a.at + length (lists_by roll s t l.r)) refl
          (omega (
            arith,
            w,
            list_long roll t s l.r,
            c.requires.5,
          ))
          ∙ ap (put a.area.now a.at) (sym (lists_next roll s t l.r)),
    )

pub returns : goal.returns
returns c =
    let l = c.loop-r in
    let e : l.r ≡ c.args.count = omega arith in
    (rw e at l.invariant.0, rw e at l.invariant.1)
