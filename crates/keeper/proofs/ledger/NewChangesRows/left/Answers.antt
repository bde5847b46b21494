use Rattle.rules.specs.New.{making}
use Rattle.rules.specs.Outcomes.{Lent}
use Rattle.rules.proofs.Refused.{making_spares}
use Rattle.table.proofs.Leaves.{leaves, all_named}
use Rattle.table.proofs.Repeats.{does_keeps}
use Rattle.keeper.proofs.ledger.NewChangesRows.left.Goals as goal

pub returns : goal.returns
unfolding making
returns c =
    let a = c.args in
    let k : Lent = record { head = a.head; table = a.table.now; area = a.area.now } in
    leaves c.new.result k _ _ _ c.new.ensures c.leave.result _ c.leave.ensures (making_spares k a.self.asked.label) (does_keeps k _ 0 _ _ _ _)
    (λ accepts. all_named k _)
