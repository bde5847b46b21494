use Rattle.rules.specs.Outcomes.{Lent}
use Rattle.rules.proofs.Refused.{initialising_spares}
use Rattle.table.proofs.Leaves.{leaves, all_named}
use Rattle.succession.proofs.Repeats.{initialising_keeps}
use Rattle.succession.proofs.messages.InitialiseChangesRows.left.Goals as goal

pub returns : goal.returns
returns c =
    let a = c.args in
    let x = a.self in
    let k : Lent = record { head = a.head; table = a.table.now; area = a.area.now } in
    leaves c.initialise-told.result k _ _ _ c.initialise-told.ensures c.leave.result _ c.leave.ensures
    (initialising_spares k x.asked.identity x.roll.now x.previous.now x.own.now) (initialising_keeps k x.asked.identity x.roll.now x.previous.now x.own.now)
    (λ accepts. all_named k _)
