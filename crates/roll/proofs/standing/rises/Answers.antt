use mathlib.Core.Path.{ap₂, ◌∙◌}
use Prim.Native.Nat.{◌-◌, ◌<◌, ◌*◌}
use native.Mathlib.Omega.{arith}
use Rattle.octets.specs.Strings.{before}
use Rattle.rows.specs.Table.{rises}
use Rattle.rows.proofs.Tables.{rises_after}
use Rattle.roll.specs.Blocks.{places, blocks}
use Rattle.roll.specs.Roll.{said_count, roll_layout}
use Rattle.roll.proofs.Spreads.{row_lies, label_cut}
use Rattle.roll.proofs.standing.rises.Goals as goal

pub returns-then-i-eq0 : goal.returns-then-i-eq0
unfolding rises
returns-then-i-eq0 c = rw c.if-i-eq0.true

pub row_at-requires : goal.row_at-requires
row_at-requires c =
    let start = c in
    omega (arith, (row_lies start.args.s.now start.requires.0 start.args.i start.requires.1).1)

pub row_at-requires-else-i-eq0 : goal.row_at-requires-else-i-eq0
row_at-requires-else-i-eq0 c =
    let start = c in
    (row_lies start.args.s.now start.requires.0 start.args.i start.requires.1).1

pub returns-else-i-eq0 : goal.returns-else-i-eq0
unfolding roll_layout
returns-else-i-eq0 c =
    let start = c in
    let s = start.args.s.now in
    let i = start.args.i in
    let earlier : i - 1 < places * blocks (said_count s) = omega (arith, start.requires.1) in
    c.is_label_before.ensures
    ∙ ap₂ before (label_cut s start.requires.0 (i - 1) _ c.row_at.ensures earlier) (label_cut s start.requires.0 i _ c.row_at-else-i-eq0.ensures start.requires.1)
    ∙ rises_after (roll_layout.cut s).rows i c.if-i-eq0.false
