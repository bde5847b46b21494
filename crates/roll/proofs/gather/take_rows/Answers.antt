use mathlib.Core.Path.{refl, ap, ◌∙◌}
use Prim.Native.Nat.{ℕ}
use native.Mathlib.Omega.{arith}
use Rattle.rows.specs.Sizes.{table_bytes}
use Rattle.roll.specs.Blocks.{gathered}
use Rattle.roll.specs.Roll.{said_count, filled, roll_layout}
use Rattle.roll.proofs.Blocks.{blocks_hold, blocks_within}
use Rattle.roll.proofs.Rolls.{holds_long, holds_few}
use Rattle.roll.proofs.gather.take_rows.Goals as goal

pub bounds-s-2 : goal.bounds-s-2
bounds-s-2 c =
    let start = c in
    let s = start.args.s.now in
    omega (arith, (blocks_hold (said_count s)).0, holds_long s start.requires.0)

pub gather-requires : goal.gather-requires
unfolding said_count
gather-requires c =
    let start = c in
    let s = start.args.s.now in
    let n = c.blocks-2.ensures in
    (omega (arith, n, holds_long s start.requires.0), omega (arith, n, blocks_within (said_count s) (holds_few s start.requires.0)), start.requires.1)

pub returns : goal.returns
unfolding said_count roll_layout
returns c =
    let s = c.args.s.now in
    (refl, c.gather.ensures ∙ ap (λ (k : ℕ). filled table_bytes (gathered s k)) c.blocks-2.ensures)
