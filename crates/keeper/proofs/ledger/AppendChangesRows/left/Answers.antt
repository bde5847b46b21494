use Rattle.statement.specs.Kinds.{receipt_size}
use Rattle.rules.specs.Outcomes.{Lent}
use Rattle.rules.specs.Rows.{present_height}
use Rattle.rules.specs.Append.{append_statement, appending}
use Rattle.rules.proofs.Refused.{appending_spares}
use Rattle.keeper.proofs.MovedRows.{place_below, one_moved}
use Rattle.keeper.proofs.ledger.AppendChangesRows.left.Goals as goal

pub leave_moved-requires : goal.leave_moved-requires
unfolding appending
leave_moved-requires c =
    let place = c.append-place in
    let a = c.args in
    let asked = a.self.asked in
    let k : Lent = record { head = a.head; table = a.table.now; area = a.area.now } in
    place_below receipt_size (present_height k asked.label) k asked.label asked.entry asked.expected (append_statement k asked.label asked.entry)
    place.result _ _ place.ensures.outcome place.ensures.place

pub returns : goal.returns
unfolding appending
returns c =
    let place = c.append-place in
    let a = c.args in
    let asked = a.self.asked in
    let k : Lent = record { head = a.head; table = a.table.now; area = a.area.now } in
    one_moved receipt_size (present_height k asked.label) k asked.label asked.entry asked.expected (append_statement k asked.label asked.entry)
    place.result _ _ place.ensures.outcome place.ensures.place c.leave_moved.result c.leave_moved.ensures
    (appending_spares k asked.label asked.entry asked.expected)
