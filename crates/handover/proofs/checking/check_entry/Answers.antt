use mathlib.Core.Path.{◌≡◌, sym, ap, ◌∙◌}
use native.Mathlib.Omega.{arith}
use Rattle.refusals.proofs.Answered.{number_refuses, passed_on}
use Rattle.statement.specs.Kinds.{handover_size}
use Rattle.rules.specs.Outcomes.{Lent}
use Rattle.rules.specs.Check.{entries_of}
use Rattle.bundle.proofs.Listed.{numbered_is, numbered_broken, numbered_empty}
use Rattle.handover.proofs.Cascades.{bundle_refuses, entry_refuses, entry_passes, shown, laid}
use Rattle.handover.proofs.Places.{new_lies}
use Rattle.handover.proofs.checking.check_entry.Goals as goal
use Rattle.handover.proofs.checking.check_entry.Goals.{After-entries_of}

pub returns-in_err-check-clause-answer : goal.returns-in_err-check-clause-answer
returns-in_err-check-clause-answer c =
    let a = c.args in
    let k : Lent = record { head = a.k.head; table = a.k.table.now; area = a.area.now } in
    passed_on _ _ c.from_residual.ensures.1
    ∙ bundle_refuses handover_size k a.k.previous.now a.k.own.now a.k.bundle.now _ _ c.in_err-check.ensures (number_refuses _)

pub returns-in_err-which-clause-answer : goal.returns-in_err-which-clause-answer
returns-in_err-which-clause-answer c =
    let a = c.args in
    let k : Lent = record { head = a.k.head; table = a.k.table.now; area = a.area.now } in
    let none = numbered_empty a.k.bundle.now a.list _ c.in_err-which.ensures in
    passed_on _ _ c.from_residual-in_err-which.ensures.1
    ∙ numbered_broken a.list _ c.in_err-which.ensures
    ∙ sym (entry_refuses k a.k.previous.now a.k.own.now a.k.bundle.now a.list a.entry (sym c.in_ok-check.ensures) (omega arith))

pub entries_of-requires : goal.entries_of-requires
entries_of-requires c =
    let a = c.args in
    let k : Lent = record { head = a.k.head; table = a.k.table.now; area = a.area.now } in
    let lies = laid (shown handover_size k a.k.previous.now a.k.own.now a.k.bundle.now (sym c.in_ok-check.ensures)).0 in
    (omega (arith, new_lies lies), lies.short)

-- as many as the list of the number has
counted : (c : After-entries_of) → c.entries_of.result ≡ entries_of c.args.k.bundle.now c.args.list
counted c = c.entries_of.ensures ∙ ap (entries_of c.args.k.bundle.now) (sym (numbered_is c.args.list _ c.in_ok-which.ensures))

pub returns-then-entries_of-entry-clause-answer : goal.returns-then-entries_of-entry-clause-answer
returns-then-entries_of-entry-clause-answer c =
    let a = c.args in
    let k : Lent = record { head = a.k.head; table = a.k.table.now; area = a.area.now } in
    let few = counted (goal.at.returns-then-entries_of-entry-clause-answer c).After-entries_of in
    sym (entry_refuses k a.k.previous.now a.k.own.now a.k.bundle.now a.list a.entry (sym c.in_ok-check.ensures) (omega (arith, few, c.if-entries_of-entry.true)))

pub returns-clause-answer : goal.returns-clause-answer
returns-clause-answer c =
    let a = c.args in
    let k : Lent = record { head = a.k.head; table = a.k.table.now; area = a.area.now } in
    let few = counted (goal.at.returns-clause-answer c).After-entries_of in
    sym (entry_passes k a.k.previous.now a.k.own.now a.k.bundle.now a.list a.entry (sym c.in_ok-check.ensures) (omega (arith, few, c.if-entries_of-entry.false)))
