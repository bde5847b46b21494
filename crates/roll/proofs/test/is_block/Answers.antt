use mathlib.Core.Path.{◌≡◌, sym, ap, ◌∙◌}
use mathlib.Core.Bool.{◌&&◌}
use mathlib.Core.List.{List}
use Prim.Native.Nat.{ℕ, ◌+◌, ◌-◌, ◌*◌}
use native.Mathlib.Omega.{arith}
use lib.ListN.{take, drop, length-take, length-drop}
use Rattle.octets.specs.Strings.{same}
use Rattle.checks.specs.Check.{check}
use Rattle.roll.specs.Blocks.{head, head_bytes, checked_bytes, block_bytes}
use Rattle.roll.specs.Roll.{said_count, roll_layout}
use Rattle.roll.proofs.Spreads.{block_stands}
use Rattle.roll.proofs.test.is_block.Goals as goal

pub is_whole-requires : goal.is_whole-requires
is_whole-requires c =
    let start = c in
    let said = c.said_count.ensures in
    (simp (length-take, length-drop) (omega (arith, start.requires.0.long)), rw said start.requires.0.few, rw said start.requires.1)

pub returns : goal.returns
unfolding roll_layout
returns c =
    let start = c in
    let a = start.args in
    let s = a.s.now in
    let e : block_bytes * a.b + block_bytes - block_bytes * a.b ≡ block_bytes = omega arith in
    rw c.said_count.ensures at c.is_whole.ensures
    ∙ ap (λ (y : List ℕ). same (head (said_count s) a.b) (take head_bytes y) && same (check (take checked_bytes y)) (drop checked_bytes y))
    (ap (λ (k : ℕ). take k (drop (block_bytes * a.b) s)) e)
    ∙ sym (block_stands s start.requires.0 a.b start.requires.1)
