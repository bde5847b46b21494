use Prim.Native.Nat.{◌+◌}
use Rattle.statement.specs.Kinds.{receipt_size, reading_size}
use Rattle.rules.specs.Outcomes.{Lent}
use Rattle.rules.specs.Rows.{present_height}
use Rattle.rules.specs.Read.{appending_and_reading}
use Rattle.rules.proofs.Refused.{appending_and_reading_spares}
use Rattle.keeper.proofs.MovedRows.{place_below, one_moved}
use Rattle.keeper.proofs.ledger.AppendAndReadChangesRows.left.Goals as goal

pub leave_moved-requires : goal.leave_moved-requires
unfolding appending_and_reading
leave_moved-requires c =
    let place = c.append_and_read-place in
    let a = c.args in
    let asked = a.self.asked in
    let k : Lent = record { head = a.head; table = a.table.now; area = a.area.now } in
    place_below (receipt_size + reading_size) (present_height k asked.label) k asked.label asked.entry asked.expected _
    place.result _ _ place.ensures.outcome place.ensures.place

pub returns : goal.returns
unfolding appending_and_reading
returns c =
    let place = c.append_and_read-place in
    let a = c.args in
    let asked = a.self.asked in
    let k : Lent = record { head = a.head; table = a.table.now; area = a.area.now } in
    one_moved (receipt_size + reading_size) (present_height k asked.label) k asked.label asked.entry asked.expected _
    place.result _ _ place.ensures.outcome place.ensures.place c.leave_moved.result c.leave_moved.ensures
    (appending_and_reading_spares k asked.label asked.entry asked.expected asked.nonce)
