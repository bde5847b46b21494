use native.Mathlib.Omega.{arith}
use Rattle.rows.proofs.order.parted.Goals as goal

pub returns : goal.returns
returns g c =
    let l = c.loop-low in
    λ test told falls.
    record {
      within = omega (arith, l.invariant.low, l.invariant.high);
      below = l.invariant.below test told falls;
      from = λ i h k. l.invariant.from test told falls i (omega (arith, c.loop-low-test.false)) k;
    }
