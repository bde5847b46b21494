use mathlib.Core.Path.{sym, ap, ◌∙◌}
use mathlib.Core.List.{List}
use Prim.Native.Nat.{ℕ}
use native.Mathlib.Omega.{arith}
use lib.ListN.{take, length-take}
use Rattle.octets.specs.Strings.{same}
use Rattle.checks.specs.Check.{check_right}
use Rattle.roll.specs.Blocks.{head_bytes}
use Rattle.roll.proofs.test.is_whole.Goals as goal

pub slice_bounds-is_same-end-2 : goal.slice_bounds-is_same-end-2
slice_bounds-is_same-end-2 c = simp length-take (omega arith)

pub returns-then-is_same : goal.returns-then-is_same
unfolding check_right
returns-then-is_same c =
    let t = sym (ap (λ (h : List ℕ). same h (take head_bytes c.args.block.now)) c.head_of.ensures) ∙ sym c.is_same.ensures ∙ c.if-is_same.true in
    rw t c.is_checked.ensures

pub returns-else-is_same : goal.returns-else-is_same
returns-else-is_same c =
    let t = sym (ap (λ (h : List ℕ). same h (take head_bytes c.args.block.now)) c.head_of.ensures) ∙ sym c.is_same.ensures ∙ c.if-is_same.false in
    rw t c.if-is_same.false
