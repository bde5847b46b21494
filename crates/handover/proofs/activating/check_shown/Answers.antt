use mathlib.Core.Path.{sym, ◌∙◌}
use mathlib.Core.List.{[]}
use native.Mathlib.Omega.{arith}
use Rattle.refusals.specs.Order.{first}
use Rattle.refusals.proofs.Answered.{number_refuses, passed_on}
use Rattle.rules.specs.Outcomes.{Lent}
use Rattle.handover.proofs.Cascades.{laid, attended_refuse, roll_decides}
use Rattle.handover.proofs.Places.{list_begins}
use Rattle.handover.proofs.activating.check_shown.Goals as goal

pub check_attended-requires : goal.check_attended-requires
check_attended-requires c = let k = c.requires in (k.before, k.mine, list_begins (laid k) 0 (omega arith), (laid k).short)

pub returns-in_err-check_attended : goal.returns-in_err-check_attended
returns-in_err-check_attended c =
    let a = c.args in
    let k : Lent = record { head = a.k.head; table = a.k.table.now; area = [] } in
    passed_on _ _ c.from_residual.ensures.1
    ∙ attended_refuse k a.k.previous.now a.k.own.now a.k.bundle.now _ c.in_err-check_attended.ensures (number_refuses _)

pub derived-requires : goal.derived-requires
derived-requires c = rw c.from.ensures (laid c.requires, c.requires.rows, c.requires.rolls)

pub returns-then-not-derived : goal.returns-then-not-derived
unfolding first
returns-then-not-derived c =
    let a = c.args in
    let k : Lent = record { head = a.k.head; table = a.k.table.now; area = [] } in
    sym (roll_decides k a.k.previous.now a.k.own.now a.k.bundle.now (sym c.in_ok-check_attended.ensures) ∙ rw (sym (rw c.from.ensures at c.derived.ensures) ∙ c.if-not-derived.true))

pub returns : goal.returns
unfolding first
returns c =
    let a = c.args in
    let k : Lent = record { head = a.k.head; table = a.k.table.now; area = [] } in
    sym (roll_decides k a.k.previous.now a.k.own.now a.k.bundle.now (sym c.in_ok-check_attended.ensures) ∙ rw (sym (rw c.from.ensures at c.derived.ensures) ∙ c.if-not-derived.false))
