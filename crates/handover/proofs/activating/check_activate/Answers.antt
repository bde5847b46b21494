use mathlib.Core.Path.{sym, ◌∙◌}
use mathlib.Core.List.{[]}
use Rattle.refusals.proofs.Answered.{number_refuses, passed_on}
use Rattle.rules.specs.Outcomes.{Lent}
use Rattle.handover.proofs.Cascades.{bundle_refuses, bundle_passes, shown}
use Rattle.handover.proofs.activating.check_activate.Goals as goal

pub returns-in_err-check : goal.returns-in_err-check
returns-in_err-check c =
    let a = c.args in
    let k : Lent = record { head = a.k.head; table = a.k.table.now; area = [] } in
    passed_on _ _ c.from_residual.ensures.1
    ∙ bundle_refuses 0 k a.k.previous.now a.k.own.now a.k.bundle.now _ _ c.in_err-check.ensures (number_refuses _)

pub check_shown-requires : goal.check_shown-requires
check_shown-requires c =
    let a = c.args in
    let k : Lent = record { head = a.k.head; table = a.k.table.now; area = [] } in
    (shown 0 k a.k.previous.now a.k.own.now a.k.bundle.now (sym c.in_ok-check.ensures)).0

pub returns : goal.returns
returns c =
    let a = c.args in
    let k : Lent = record { head = a.k.head; table = a.k.table.now; area = [] } in
    c.check_shown.ensures ∙ sym (bundle_passes 0 k a.k.previous.now a.k.own.now a.k.bundle.now _ (sym c.in_ok-check.ensures))
