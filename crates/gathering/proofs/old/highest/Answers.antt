use mathlib.Core.Path.{refl, sym, ap, ap₂, ◌∙◌}
use mathlib.Core.Bool.{cond}
use mathlib.Core.List.{List}
use Prim.Native.Nat.{ℕ}
use native.Mathlib.Omega.{arith}
use lib.Dec.{ltb}
use lib.ListN.{length}
use Rattle.std.proofs.lemmas.List.{length_push}
use Rattle.bundle.specs.Rolls.{rolls_left}
use Rattle.bundle.proofs.RollsLeft.{Given_next, start, given, ended}
use Rattle.maker.specs.declared.Highest.{Highest}
use Rattle.maker.specs.Rolls.{highest_of, highest}
use Rattle.gathering.specs.Old.{row_of}
use Rattle.gathering.proofs.Walks.{roll_holds, highest_next}
use Rattle.gathering.proofs.old.highest.Goals as goal
use Rattle.gathering.proofs.old.highest.Goals.{In-Some}

pub loop-roll-init : goal.loop-roll-init
unfolding highest_of
loop-roll-init c =
    let e = c.args.e.now in
    record { given = omega arith; left = ap rolls_left c.into_iter-roll-iterator.ensures.into_iter_gives ∙ c.of-roll-items.ensures ∙ start e; best = refl }

turn : (c : In-Some) → Given_next c.args.e.now (length c.loop-roll.yielded) c.in-Some.roll.now (rolls_left c.next.new.self)
turn c = given _ _ _ _ (sym c.loop-roll.invariant.left ∙ c.in-Some.ensures.steps)

pub old_row-requires : goal.old_row-requires
old_row-requires c = let t = turn c in rw t.roll_is (roll_holds c.requires _ t.below)

pub loop-roll-preserved : goal.loop-roll-preserved
loop-roll-preserved c =
    let a = c.args in
    let l = c.loop-roll in
    let i = length l.yielded in
    let t = turn (goal.at.loop-roll-preserved c).In-Some in
    let row = c.old_row.ensures ∙ ap (λ (roll : List ℕ). row_of roll a.label) t.roll_is in
    rw (length_push l.yielded c.in-Some.roll)
    (record {
      given = omega (arith, t.below);
      left = t.left_is;
      best = c.higher-best.ensures ∙ ap₂ (λ (b r : Highest). cond (ltb b.height r.height) r b) l.invariant.best row ∙ sym (highest_next a.e.now a.label i);
    })

pub returns : goal.returns
unfolding highest
returns c =
    let l = c.loop-roll in
    let e = ended c.args.e.now (length l.yielded) l.invariant.given (sym l.invariant.left ∙ c.in-None.ensures.steps.0) in
    l.invariant.best ∙ ap (highest_of c.args.e.now c.args.label) e
