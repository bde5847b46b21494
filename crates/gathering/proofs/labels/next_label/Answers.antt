use mathlib.Core.Path.{refl, sym, ap, ap₂, ◌∙◌}
use mathlib.Core.List.{List}
use Prim.Native.Nat.{ℕ}
use native.Mathlib.Omega.{arith}
use lib.ListN.{length}
use Rattle.std.proofs.lemmas.List.{length_push}
use Rattle.roll.specs.Roll.{roll_layout}
use Rattle.bundle.specs.Rolls.{rolls_left}
use Rattle.bundle.proofs.RollsLeft.{Given_next, start, given, ended}
use Rattle.maker.specs.Rolls.{nearest_in, next_of}
use Rattle.gathering.proofs.Walks.{roll_holds, next_next}
use Rattle.gathering.proofs.labels.next_label.Goals as goal
use Rattle.gathering.proofs.labels.next_label.Goals.{In-Some}

pub loop-roll-init : goal.loop-roll-init
unfolding next_of
loop-roll-init c =
    let e = c.args.e.now in
    record { given = omega arith; left = ap rolls_left c.into_iter-roll-iterator.ensures.into_iter_gives ∙ c.of-roll-items.ensures ∙ start e; found = refl }

turn : (c : In-Some) → Given_next c.args.e.now (length c.loop-roll.yielded) c.in-Some.roll.now (rolls_left c.next.new.self)
turn c = given _ _ _ _ (sym c.loop-roll.invariant.left ∙ c.in-Some.ensures.steps)

pub nearest_in-next-requires : goal.nearest_in-next-requires
nearest_in-next-requires c = let t = turn c in rw t.roll_is (roll_holds c.requires _ t.below)

pub loop-roll-preserved : goal.loop-roll-preserved
loop-roll-preserved c =
    let a = c.args in
    let l = c.loop-roll in
    let i = length l.yielded in
    let t = turn (goal.at.loop-roll-preserved c).In-Some in
    rw (length_push l.yielded c.in-Some.roll)
    (record {
      given = omega (arith, t.below);
      left = t.left_is;
      found = c.nearest_in-next.ensures
          ∙ ap₂ (λ (roll best : List ℕ). nearest_in (roll_layout.cut roll) a.last best (roll_layout.cut roll).count) t.roll_is l.invariant.found
          ∙ sym (next_next a.e.now a.last i);
    })

pub returns : goal.returns
returns c =
    let a = c.args in
    let l = c.loop-roll in
    let e = ended a.e.now (length l.yielded) l.invariant.given (sym l.invariant.left ∙ c.in-None.ensures.steps.0) in
    l.invariant.found ∙ ap (next_of a.e.now a.last) e
