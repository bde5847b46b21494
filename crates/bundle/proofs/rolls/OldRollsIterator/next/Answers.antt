use mathlib.Core.Path.{◌≡◌, ap, ◌∙◌}
use mathlib.Core.List.{List, ◌∷◌}
use Prim.Native.Nat.{ℕ, suc, ◌+◌, ◌-◌, ◌*◌, ◌<◌, ◌≤◌}
use native.Mathlib.Numerals.{add-one}
use native.Mathlib.Omega.{arith}
use lib.ListN.{length, take, drop}
use Rattle.roll.specs.Blocks.{block_bytes}
use Rattle.rules.specs.Bundle.{byte, old_count, old_at, old_roll, new_at}
use Rattle.bundle.specs.Rolls.{rolls_from, rolls_left}
use Rattle.bundle.proofs.Places.{old_step, old_later, old_before_new}
use Rattle.bundle.proofs.rolls.OldRollsIterator.next.Goals as goal
use Rattle.bundle.proofs.rolls.OldRollsIterator.next.Goals.{After-next_old-end, Else-self-old_count}

some_byte : (s : List ℕ) → new_at s ≤ length s → 0 < length s
unfolding new_at old_at
some_byte s h = omega (arith, h, old_later s 0 (old_count s) (omega arith))

pub old_count-requires : goal.old_count-requires
old_count-requires c = some_byte c.args.self.now.s.now c.args.self.now.within

pub returns-then-self-old_count-clause-steps : goal.returns-then-self-old_count-clause-steps
unfolding rolls_from
returns-then-self-old_count-clause-steps c =
    let w = c.args.self.now in
    let none : old_count w.s.now - w.i ≡ 0 = omega (arith, c.if-self-old_count.true, c.old_count.ensures) in
    let empty = ap (rolls_from w.s.now w.i) none in
    (empty, empty)

below : (c : Else-self-old_count) → c.args.self.now.i < old_count c.args.self.now.s.now
below c = omega (arith, c.args.self.now.counted, c.if-self-old_count.false, c.old_count.ensures)

-- the entry lies within
lies : (c : Else-self-old_count) → let w = c.args.self.now in w.at + (3 + block_bytes * byte w.s.now (w.at + 2)) ≤ length w.s.now
lies c =
    let w = c.args.self.now in
    rw w.placed (omega (arith, w.within, old_before_new w.s.now w.i (below c)))

pub next_old-end-requires : goal.next_old-end-requires
next_old-end-requires c = (omega (arith, lies (goal.at.next_old-end-requires c).Else-self-old_count), c.args.self.now.short)

pub slice_bounds-roll-end : goal.slice_bounds-roll-end
slice_bounds-roll-end c =
    omega (arith, c.next_old-end.ensures, lies (goal.at.slice_bounds-roll-end c).Else-self-old_count)

pub invariant_of-self : goal.invariant_of-self
invariant_of-self c =
    let w = c.args.self.now in
    record {
      placed = old_step w.s.now w.i w.at w.placed c.next_old-end.ensures;
      counted = omega (arith, below (goal.at.invariant_of-self c).Else-self-old_count);
      within = w.within;
      short = w.short;
    }

-- the first of the rolls that are left, and the others
split :
    (c : After-next_old-end)
    → let w = c.args.self.now in
    rolls_left w
    ≡ take (c.next_old-end.result - (w.at + 3)) (drop (w.at + 3) w.s.now) ∷ rolls_from w.s.now (w.i + 1) (old_count w.s.now - (w.i + 1))
unfolding rolls_from old_roll
split c =
    let w = c.args.self.now in
    let more : old_count w.s.now - w.i ≡ suc (old_count w.s.now - (w.i + 1)) = omega (arith, below (goal.at.After-next_old-end c).Else-self-old_count) in
    let long : c.next_old-end.result - (w.at + 3) ≡ block_bytes * byte w.s.now (w.at + 2) = omega (arith, c.next_old-end.ensures) in
    ap (rolls_from w.s.now w.i) more ∙ rw (long, w.placed, add-one w.i)

pub returns-clause-steps : goal.returns-clause-steps
returns-clause-steps c = split (goal.at.returns-clause-steps c).After-next_old-end

pub returns-clause-goes : goal.returns-clause-goes
returns-clause-goes c =
    record { on = λ _. (tt, tt, omega (arith, ap length (split (goal.at.returns-clause-goes c).After-next_old-end))); keeps = tt; rests = λ _. tt }
