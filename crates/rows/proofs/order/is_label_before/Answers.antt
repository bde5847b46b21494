use mathlib.Core.Path.{sym, ◌∙◌}
use native.Mathlib.Omega.{arith}
use Rattle.rows.proofs.Labels.{by_first, by_second}
use Rattle.rows.proofs.order.is_label_before.Goals as goal

pub returns-then-a-b : goal.returns-then-a-b
returns-then-a-b c =
    let start = c in
    let a = start.args in
    let s = c.type_inv.s in
    let t = c.type_inv.t in
    rw (c.number_at-a.ensures, c.number_at-b.ensures)
    (by_first a.s.now a.t.now (λ j. omega (arith, s j)) (λ j. omega (arith, t j)) a.at a.from start.requires.0 start.requires.1
    (λ e. c.if-a-b.true (c.number_at-a.ensures ∙ e ∙ sym c.number_at-b.ensures)))

pub returns : goal.returns
returns c =
    let start = c in
    let a = start.args in
    let s = c.type_inv.s in
    let t = c.type_inv.t in
    rw (c.number_at.ensures, c.number_at-2.ensures)
    (by_second a.s.now a.t.now (λ j. omega (arith, s j)) (λ j. omega (arith, t j)) a.at a.from start.requires.0 start.requires.1
    (sym c.number_at-a.ensures ∙ c.if-a-b.false ∙ c.number_at-b.ensures))
