-- Of another table Wake answers at once; of one of 63 rows it leaves the blank record, and writes both head and rows.
use mathlib.Core.Path.{sym, ap, ap₂, ◌∙◌}
use mathlib.Core.List.{List, []}
use Rattle.rules.specs.declared.Head.{Head}
use Rattle.rules.specs.declared.Answer.{Answer}
use Rattle.rules.specs.Outcomes.{accepting}
use Rattle.rules.specs.Wake.{waking}
use Rattle.table.specs.declared.Row.{Row}
use Rattle.table.specs.Flat.{flattened}
use Rattle.table.proofs.HeldRows.{over_63, over_other}
use Rattle.table.proofs.Outcomes.{held}
use Rattle.keeper.proofs.Woken.{waking_other, waking_63}
use Rattle.keeper.proofs.waking.mahqurith_wake.Goals as goal

pub returns-then-rows-ne-MOST : goal.returns-then-rows-ne-MOST
returns-then-rows-ne-MOST c =
    let h = c.args.h.now in
    let rows = c.args.rows.now in
    over_other (λ k. waking k c.args.asked.key) h rows [] _ c.if-rows-ne-MOST.true
    (waking_other h rows c.args.asked.key [] c.rows_typed.ensures c.if-rows-ne-MOST.true
    ∙ ap (λ (a : Answer). record { answer = a; left = record { head = h; table = flattened rows; area = [] } }) (sym c.other_length.ensures))

pub returns : goal.returns
returns c =
    let h = c.args.h.now in
    let rows = c.args.rows.now in
    ap₂ (λ (g : Head) (rs : List Row). held (accepting 0) g rs []) c.woken.ensures c.rows_clear.ensures
    ∙ waking_63 h rows c.args.asked.key c.rows_typed.ensures c.if-rows-ne-MOST.false
    ∙ over_63 (λ k. waking k c.args.asked.key) h rows [] c.if-rows-ne-MOST.false
