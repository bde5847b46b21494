use Prim.Native.Nat.{◌+◌, ◌*◌, ◌-◌, ◌≤◌}
use native.Mathlib.Nat.{mul-le-mul_left}
use native.Mathlib.Omega.{arith}
use Rattle.vectors.proofs.messages.Messages.size.Goals as goal
use Rattle.vectors.proofs.messages.Messages.size.Goals.{Start}

within : (c : Start) → c.args.self.first + c.args.self.step * c.args.i ≤ 6400
within c =
    let before_last : c.args.i ≤ c.args.self.count - 1 = omega arith in
    omega (arith, mul-le-mul_left c.args.self.step before_last)

pub overflow_mul-result : goal.overflow_mul-result
overflow_mul-result c = omega (arith, within (goal.at.overflow_mul-result c).Start)

pub overflow_add-result : goal.overflow_add-result
overflow_add-result c = omega (arith, within (goal.at.overflow_add-result c).Start)

pub overflow_cast-result : goal.overflow_cast-result
overflow_cast-result c = omega (arith, within (goal.at.overflow_cast-result c).Start)

pub returns : goal.returns
returns c = within (goal.at.returns c).Start
