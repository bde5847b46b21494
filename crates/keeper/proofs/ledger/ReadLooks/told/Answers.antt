use Rattle.rules.specs.Outcomes.{Lent}
use Rattle.rules.specs.Read.{reading}
use Rattle.table.proofs.Leaves.{answers, same_head}
use Rattle.keeper.proofs.ledger.ReadLooks.told.Goals as goal

pub returns : goal.returns
unfolding reading
returns c =
    let a = c.args in
    let k : Lent = record { head = a.head; table = a.table.now; area = a.area.now } in
    answers c.read.result k _ _ _ c.read.ensures (same_head _ 0 k _ _)
