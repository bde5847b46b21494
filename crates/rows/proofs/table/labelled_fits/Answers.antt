use mathlib.Core.Path.{sym, ap₂, ◌∙◌}
use mathlib.Core.Bool.{true, cond, ◌&&◌}
use mathlib.Core.List.{List}
use Prim.Native.Nat.{ℕ}
use lib.Dec.{eqb, leb}
use Rattle.octets.specs.Strings.{all_zero}
use Rattle.rows.specs.Sizes.{top_height}
use Rattle.rows.proofs.Rows.{tail_part, height_part, labelled}
use Rattle.rows.proofs.table.labelled_fits.Goals as goal

pub returns : goal.returns
returns c =
    let start = c in
    let rows = start.args.rows.now in
    let i = start.args.i in
    c.tail_holds.ensures
    ∙ ap₂ (λ (t : List ℕ) (h : ℕ). leb h top_height && cond (eqb h 0) (all_zero t) true) (tail_part rows i) (c.number_at.ensures ∙ height_part rows i)
    ∙ sym (labelled rows i start.requires.1)
