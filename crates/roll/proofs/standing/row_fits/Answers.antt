use mathlib.Core.Path.{ap, ap₂, ◌∙◌}
use mathlib.Core.List.{List}
use Prim.Native.Nat.{ℕ}
use Rattle.rows.specs.Row.{label_of, tail_of, row_holds, row_fits}
use Rattle.roll.specs.Roll.{roll_layout}
use Rattle.roll.proofs.standing.row_fits.Goals as goal

pub returns : goal.returns
unfolding row_fits
returns c =
    let a = c.args in
    let t = (roll_layout.cut a.s.now).rows in
    c.row_holds.ensures
    ∙ ap₂ (λ (x y : List ℕ). row_holds x y c.height_in.result) c.label_in.ensures c.tail_in.ensures
    ∙ ap (row_holds (label_of t a.i) (tail_of t a.i)) c.height_in.ensures
