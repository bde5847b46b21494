-- By the law of the calls that leave the record.
use Rattle.walks.proofs.Laws.{refused, looked}
use Rattle.walks.proofs.looking.look.Goals as goal

pub returns-then-rows-ne-MOST : goal.returns-then-rows-ne-MOST
returns-then-rows-ne-MOST g c =
    let a = c.args in
    let ts = c.rows_typed.ensures in
    let other = c.if-rows-ne-MOST.true in
    refused (g.C.Looks.rule a.call) a.h.now a.rows.now a.area.now ts g.C.Looks.size _ other
    (g.met.C.Looks.refuses a.call a.h.now a.rows.now a.area.now ts other) (rw c.size.ensures at c.other_length.ensures)

pub returns : goal.returns
returns g c =
    let a = c.args in
    looked (g.C.Looks.rule a.call) a.h.now a.rows.now a.area.now c.rows_typed.ensures c.if-rows-ne-MOST.false _ _ c.flat_in.ensures _
    (rw c.from.ensures c.told.ensures)
