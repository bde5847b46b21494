use mathlib.Core.Path.{ap, ◌∙◌}
use mathlib.Core.List.{List}
use Prim.Native.Nat.{ℕ}
use Rattle.octets.specs.Strings.{same}
use Rattle.roll.specs.Roll.{roll_layout}
use Rattle.roll.proofs.Spreads.{row_lies, label_stands}
use Rattle.gathering.proofs.search.has_label.Goals as goal

pub row_at-at-requires : goal.row_at-at-requires
row_at-at-requires c = let start = c in (row_lies start.args.roll.now start.requires.0 start.args.i start.requires.1).1

pub returns : goal.returns
unfolding roll_layout
returns c =
    let start = c in
    c.is_same.ensures
    ∙ ap (λ (l : List ℕ). same l start.args.label.now)
    (label_stands start.args.roll.now start.requires.0 start.args.i _ c.row_at-at.ensures start.requires.1)
