use Rattle.rules.specs.Outcomes.{Lent}
use Rattle.keeper.proofs.MovedRows.{many_below, many_moved}
use Rattle.keeper.proofs.ledger.AppendManyChangesRows.left.Goals as goal

pub leave_moved-requires : goal.leave_moved-requires
leave_moved-requires c =
    let place = c.append_many-place in
    let a = c.args in
    let asked = a.self.asked in
    let k : Lent = record { head = a.head; table = a.table.now; area = a.area.now } in
    many_below k asked.label a.self.list.now asked.expected place.result _ _ place.ensures.outcome place.ensures.place

pub returns : goal.returns
returns c =
    let place = c.append_many-place in
    let a = c.args in
    let asked = a.self.asked in
    let k : Lent = record { head = a.head; table = a.table.now; area = a.area.now } in
    many_moved k asked.label a.self.list.now asked.expected place.result _ _ place.ensures.outcome place.ensures.place c.leave_moved.result
    c.leave_moved.ensures
