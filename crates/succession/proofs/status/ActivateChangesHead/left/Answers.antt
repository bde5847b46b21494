use mathlib.Core.Path.{refl}
use Rattle.rules.specs.Outcomes.{Lent, told}
use Rattle.rules.proofs.Refused.{activating_spares}
use Rattle.table.proofs.Leaves.{leaves, none_named}
use Rattle.succession.proofs.AnyArea.{activating_any}
use Rattle.succession.proofs.Repeats.{activating_keeps}
use Rattle.succession.proofs.status.ActivateChangesHead.left.Goals as goal

pub returns : goal.returns
returns c =
    let a = c.args in
    let x = a.self in
    let k : Lent = record { head = a.head; table = a.table.now; area = a._area.now } in
    let p = x.previous.now in
    let o = x.own.now in
    let s = x.bundle.now in
    leaves c.activate.result k _ _ _ (activating_any a.head a.table.now a._area.now p o s (told a.head c.activate.result) c.activate.ensures)
    c.leave.result _ c.leave.ensures (activating_spares k p o s) (activating_keeps k p o s) (λ accepts. none_named k _ refl)
