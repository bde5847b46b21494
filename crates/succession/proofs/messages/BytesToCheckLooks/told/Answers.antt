use Rattle.rules.specs.Outcomes.{Lent}
use Rattle.rules.specs.Check.{checking}
use Rattle.table.proofs.Leaves.{answers, same_head}
use Rattle.succession.proofs.messages.BytesToCheckLooks.told.Goals as goal

pub returns : goal.returns
unfolding checking
returns c =
    let a = c.args in
    let k : Lent = record { head = a.head; table = a.table.now; area = a.area.now } in
    answers c.bytes_to_check.result k _ _ _ c.bytes_to_check.ensures (same_head _ 0 k _ _)
