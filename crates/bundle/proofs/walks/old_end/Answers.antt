use mathlib.Core.Path.{refl, sym, ap}
use mathlib.Core.Bool.{Bool}
use Prim.Native.Nat.{◌+◌}
use native.Mathlib.Omega.{arith}
use Rattle.std.specs.Bool.{then_some}
use Rattle.rules.specs.Bundle.{old_at}
use Rattle.bundle.proofs.Places.{old_step, old_past}
use Rattle.bundle.proofs.walks.old_end.Goals as goal

pub loop-init : goal.loop-init
unfolding old_at
loop-init c = record { placed = refl; near = omega arith }

pub returns-then-s-at : goal.returns-then-s-at
returns-then-s-at c =
    let s = c.args.s.now in
    let past = old_past s c.loop.counter c.args.count (omega arith) (omega (arith, c.loop.invariant.placed)) in
    sym (ap (λ (b : Bool). then_some b (old_at s c.args.count)) past)

pub loop-preserved : goal.loop-preserved
loop-preserved c =
    let l = c.loop in record {
      placed = old_step c.args.s.now l.counter l.at l.invariant.placed c.next_old-at.ensures;
      near = omega (arith, c.next_old-at.ensures, c.if-s-at.false, c.requires, c.type_inv.s (l.at + 2));
    }
