use mathlib.Core.Path.{refl}
use Rattle.rules.specs.Outcomes.{Lent}
use Rattle.ledgers.proofs.Actives.{ready_rows}
use Rattle.ledgers.proofs.search.seek.Goals as goal

pub find-requires : goal.find-requires
find-requires c =
    let a = c.args in
    let k : Lent = record { head = a.head; table = a.table.now; area = a.area.now } in
    ready_rows a.size k _ c.in_ok-check_ready.ensures refl
