use mathlib.Core.Path.{refl}
use Rattle.rules.specs.Outcomes.{Lent}
use Rattle.rules.proofs.Refused.{finalising_spares}
use Rattle.table.proofs.Leaves.{leaves, none_named}
use Rattle.succession.proofs.Repeats.{finalising_keeps}
use Rattle.succession.proofs.status.FinaliseChangesHead.left.Goals as goal

pub returns : goal.returns
returns c =
    let a = c.args in
    let x = a.self in
    let k : Lent = record { head = a.head; table = a.table.now; area = a.area.now } in
    leaves c.finalise.result k _ _ _ c.finalise.ensures c.leave.result _ c.leave.ensures (finalising_spares k x.next.now)
    (finalising_keeps k x.next.now) (λ accepts. none_named k _ refl)
