use lib.Seq.{take_all}
use mathlib.Core.Path.{ap₂, ◌∙◌}
use Prim.Native.Nat.{◌-◌}
use native.Mathlib.Omega.{arith}
use lib.ListN.{length, drop, length-take, length-drop}
use Rattle.octets.specs.Strings.{same}
use Rattle.checks.specs.Check.{check_right}
use Rattle.checks.proofs.is_checked.Goals as goal

pub slice_bounds-check_of-end : goal.slice_bounds-check_of-end
slice_bounds-check_of-end c = simp length-take (omega arith)

pub returns : goal.returns
unfolding check_right
returns c =
    let b = c.args.b.now in
    c.is_same.ensures
    ∙ ap₂ same c.check_of.ensures (take_all (length b - 508) (drop 508 b) (omega (arith, length-drop 508 b)))
