use mathlib.Core.Path.{sym, ap, ◌∙◌}
use mathlib.Core.Bool.{Bool, ◌&&◌, and-true}
use Rattle.rows.specs.Row.{row_fits}
use Rattle.rows.specs.Table.{rises, stands}
use Rattle.rows.proofs.Labels.{risen}
use Rattle.rows.proofs.Tables.{and_false}
use Rattle.rows.proofs.table.stands.Goals as goal

pub returns-then-i-eq0 : goal.returns-then-i-eq0
unfolding stands rises
returns-then-i-eq0 c =
    let a = c.args in
    let rows = a.rows.now in
    c.row_fits.ensures ∙ sym (and-true (row_fits rows a.i)) ∙ ap (λ (b : Bool). row_fits rows a.i && b) (sym (ap (rises rows) c.if-i-eq0.true))

pub labelled_fits-requires : goal.labelled_fits-requires
labelled_fits-requires c =
    let start = c in
    (start.requires, risen start.args.rows.now start.args.i start.requires c.if-i-eq0.false (sym c.rises.ensures ∙ c.if-rises.true))

pub returns-then-rises : goal.returns-then-rises
unfolding stands
returns-then-rises c =
    let a = c.args in
    let rows = a.rows.now in
    let rise = sym c.rises.ensures ∙ c.if-rises.true in
    c.labelled_fits.ensures ∙ sym (and-true (row_fits rows a.i)) ∙ ap (λ (b : Bool). row_fits rows a.i && b) (sym rise)

pub returns-else-rises : goal.returns-else-rises
unfolding stands
returns-else-rises c =
    let a = c.args in
    c.if-rises.false ∙ sym (and_false (row_fits a.rows.now a.i) (sym c.rises.ensures ∙ c.if-rises.false))
