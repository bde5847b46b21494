use mathlib.Core.Path.{◌≡◌, refl, sym, ap, ◌∙◌}
use mathlib.Core.List.{List}
use Prim.Native.Nat.{ℕ, ◌<◌}
use native.Mathlib.Omega.{arith}
use Rattle.rules.specs.Bundle.{old_count, old_at, old_roll}
use Rattle.rules.specs.Derivation.{some}
use Rattle.rules.proofs.Somes.{some_more, some_found}
use Rattle.bundle.proofs.Places.{old_step}
use Rattle.gathering.proofs.Walks.{entry_lies, head_lies, roll_holds, roll_cut}
use Rattle.listing.specs.Leading.{has_label}
use Rattle.listing.proofs.early.is_early.Goals as goal
use Rattle.listing.proofs.early.is_early.Goals.{In-loop}

pub loop-init : goal.loop-init
unfolding old_at some
loop-init c = (refl, refl)

below : (c : In-loop) → c.loop.counter < old_count c.args.e.now
below c = omega (arith, c.requires.1)

pub roll_at-requires : goal.roll_at-requires
roll_at-requires c = (
  entry_lies c.requires.0 c.loop.counter c.loop.at c.loop.invariant.0 (below c),
  c.requires.0.short,
)

pub has_label-requires : goal.has_label-requires
has_label-requires c =
    let l = c.loop in
    rw (c.roll_at.ensures ∙ roll_cut c.args.e.now l.counter l.at l.invariant.0)
    (roll_holds c.requires.0 l.counter (below (goal.at.has_label-requires c).In-loop))

pub returns-then-has_label : goal.returns-then-has_label
returns-then-has_label c =
    let a = c.args in
    let l = c.loop in
    let s = a.e.now in
    let has = c.has_label.ensures
    ∙ ap (λ (roll : List ℕ). has_label roll a.label) (c.roll_at.ensures ∙ roll_cut s l.counter l.at l.invariant.0) in
    sym (some_found (λ (i : ℕ). has_label (old_roll s i) a.label) a.n l.counter (omega arith) (sym has ∙ c.if-has_label.true))

pub next_old-at-requires : goal.next_old-at-requires
next_old-at-requires c = (
  head_lies c.requires.0 c.loop.counter
      c.loop.at c.loop.invariant.0 (below (goal.at.next_old-at-requires c).In-loop),
  c.requires.0.short,
)

pub loop-preserved : goal.loop-preserved
loop-preserved c =
    let a = c.args in
    let l = c.loop in
    let s = a.e.now in
    let has = c.has_label.ensures
    ∙ ap (λ (roll : List ℕ). has_label roll a.label) (c.roll_at.ensures ∙ roll_cut s l.counter l.at l.invariant.0) in (
      old_step s l.counter l.at l.invariant.0 c.next_old-at.ensures,
      some_more (λ (i : ℕ). has_label (old_roll s i) a.label) l.counter ∙ rw l.invariant.1 (sym has ∙ c.if-has_label.false),
    )

pub returns : goal.returns
returns c =
    let a = c.args in
    let l = c.loop in
    let e : l.counter ≡ a.n = omega arith in
    sym (rw e at l.invariant.1)
