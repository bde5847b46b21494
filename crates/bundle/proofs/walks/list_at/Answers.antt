use Rattle.bundle.proofs.Places.{list_step, list_ends, new_before_lists}
use native.Mathlib.Omega.{arith}
use Rattle.bundle.proofs.walks.list_at.Goals as goal

pub first_list-at-requires : goal.first_list-at-requires
first_list-at-requires c = (omega (arith, new_before_lists c.args.s.now c.args.j), c.requires.1)

pub next_list-at-requires : goal.next_list-at-requires
next_list-at-requires c =
    let a = c.args in
    let p = c.requires in
    (omega (arith, list_ends a.s.now c.loop.counter a.j (omega arith)), p.1)

pub loop-preserved : goal.loop-preserved
loop-preserved c = let l = c.loop in list_step c.args.s.now l.counter l.at l.invariant c.next_list-at.ensures
