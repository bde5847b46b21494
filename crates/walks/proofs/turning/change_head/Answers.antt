-- By the law of the calls that change the head alone.
use Rattle.std.proofs.Common.{rules}
use Rattle.walks.proofs.Laws.{refused, turned}
use Rattle.walks.proofs.turning.change_head.Goals.{in-Some, in_default}
use Rattle.walks.proofs.turning.change_head.Goals as goal

pub returns-then-rows-ne-MOST : goal.returns-then-rows-ne-MOST
returns-then-rows-ne-MOST g c =
    let a = c.args in
    let ts = c.rows_typed.ensures in
    let other = c.if-rows-ne-MOST.true in
    refused (g.C.ChangesHead.rule a.call) a.h.now a.rows.now a.area.now ts g.C.ChangesHead.size _ other
    (g.met.C.ChangesHead.refuses a.call a.h.now a.rows.now a.area.now ts other) (rw c.size.ensures at c.other_length.ensures)

pub returns : goal.returns
returns g c =
    let a = c.args in
    turned (g.C.ChangesHead.rule a.call) a.h.now a.rows.now a.area.now c.rows_typed.ensures c.if-rows-ne-MOST.false _ _ c.flat_in.ensures
    c.left-left.result c.match-left.h c.left-left.ensures (elim c.match-left.branch [ in-Some w ↦ search rules | in_default w ↦ search rules ])
