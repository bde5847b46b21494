use mathlib.Core.Path.{refl}
use Rattle.statement.specs.Kinds.{receipt_size}
use Rattle.rows.proofs.Tables.{fit_length, fit_count}
use Rattle.rules.specs.Outcomes.{Lent}
use Rattle.ledgers.proofs.Actives.{ready_rows}
use Rattle.making.proofs.making.check_new.Goals as goal

pub find-requires : goal.find-requires
find-requires c =
    let a = c.args in
    let k : Lent = record { head = a.head; table = a.table.now; area = a.area.now } in
    ready_rows receipt_size k _ c.in_ok-check_ready.ensures refl

pub is_company_full-requires : goal.is_company_full-requires
is_company_full-requires c =
    let a = c.args in
    let k : Lent = record { head = a.head; table = a.table.now; area = a.area.now } in
    let fit = ready_rows receipt_size k _ c.in_ok-check_ready.ensures refl in
    (fit_count _ _ fit, fit_length _ _ fit)
