use mathlib.Core.Path.{◌≡◌, ap₂, ◌∙◌}
use Prim.Native.Nat.{◌+◌, ◌-◌}
use native.Mathlib.Omega.{arith}
use lib.Seq.{take_all}
use Rattle.octets.specs.Strings.{before}
use Rattle.roll.specs.Roll.{roll_layout}
use Rattle.roll.proofs.Spreads.{row_lies, label_stands}
use Rattle.gathering.proofs.search.is_smaller.Goals as goal

pub row_at-requires : goal.row_at-requires
row_at-requires c = (row_lies c.args.roll.now c.requires.0 c.args.i c.requires.1).1

pub returns : goal.returns
unfolding roll_layout
returns c =
    let at = c.row_at.result in
    let sixteen : at + 16 - at ≡ 16 = omega arith in
    let row = rw sixteen at (label_stands c.args.roll.now c.requires.0 c.args.i at c.row_at.ensures c.requires.1) in
    c.is_label_before.ensures ∙ ap₂ before row (take_all 16 c.args.label.now (omega (arith, c.told-label)))
