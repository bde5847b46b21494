use mathlib.Core.Path.{refl, sym, ap, ◌∙◌}
use mathlib.Core.List.{List}
use Prim.Native.Nat.{ℕ}
use native.Mathlib.Omega.{arith}
use lib.ListN.{length}
use Rattle.std.proofs.lemmas.List.{length_push}
use Rattle.bundle.specs.Rolls.{rolls_left}
use Rattle.bundle.proofs.RollsLeft.{Given_next, start, given, ended}
use Rattle.gathering.proofs.Walks.{roll_holds}
use Rattle.composing.specs.Sizes.{roll_size, whole_size}
use Rattle.composing.proofs.Lengths.{whole_next}
use Rattle.composing.proofs.sizes.whole_size.Goals as goal
use Rattle.composing.proofs.sizes.whole_size.Goals.{In-Some}

pub loop-roll-init : goal.loop-roll-init
unfolding whole_size
loop-roll-init c =
    let e = c.args.e.now in
    record {
      given = omega arith;
      left = ap rolls_left c.into_iter-roll-iterator.ensures.into_iter_gives ∙ c.of-roll-items.ensures ∙ start e;
      size = refl;
      bound = omega (arith, c.requires.0.short);
    }

turn : (c : In-Some) → Given_next c.args.e.now (length c.loop-roll.yielded) c.in-Some.roll.now (rolls_left c.next.new.self)
turn c = given _ _ _ _ (sym c.loop-roll.invariant.left ∙ c.in-Some.ensures.steps)

pub roll_size-size-requires : goal.roll_size-size-requires
roll_size-size-requires c = let t = turn c in (rw t.roll_is (roll_holds c.requires.0 _ t.below), c.requires.1, c.requires.2)

pub loop-roll-preserved : goal.loop-roll-preserved
loop-roll-preserved c =
    let a = c.args in
    let s = a.e.now in
    let l = c.loop-roll in
    let i = length l.yielded in
    let t = turn (goal.at.loop-roll-preserved c).In-Some in
    let size = c.roll_size-size.ensures.0 ∙ ap (λ (roll : List ℕ). roll_size roll a.table.now a.count) t.roll_is in
    rw (length_push l.yielded c.in-Some.roll)
    (record {
      given = omega (arith, t.below);
      left = t.left_is;
      size = omega (arith, l.invariant.size, size, whole_next s a.table.now a.table.now a.count i);
      bound = omega (arith, l.invariant.bound, c.roll_size-size.ensures.1);
    })

pub returns : goal.returns
returns c =
    let a = c.args in
    let l = c.loop-roll in
    let e = ended a.e.now (length l.yielded) l.invariant.given (sym l.invariant.left ∙ c.in-None.ensures.steps.0) in
    l.invariant.size ∙ ap (whole_size a.e.now a.table.now a.count) e
