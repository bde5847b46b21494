use mathlib.Core.Path.{sym, ap, ◌∙◌}
use mathlib.Core.List.{List}
use Prim.Native.Nat.{ℕ}
use Rattle.rules.specs.declared.Head.{Head}
use Rattle.rules.specs.Outcomes.{given, unless}
use Rattle.rules.specs.Initialise.{initialise_statement, entered, initialising}
use Rattle.rules.proofs.Tolds.{refused_alone, handed_on}
use Rattle.entering.specs.Parts.{taking_over}
use Rattle.entering.proofs.Enters.{Enterable, enterable, takeable, in_order}
use Rattle.entering.proofs.entry.initialise.Goals as goal
use Rattle.entering.proofs.entry.initialise.Goals.{In_ok-check_initialise}

-- what is known once nothing refuses
can :
    (c : In_ok-check_initialise) → let a = c.args in
    Enterable (record { head = a.head; table = a.table.now; area = a.area.now }) a.roll.now a.previous.now a.own.now
can c = enterable _ _ _ _ (sym c.in_ok-check_initialise.ensures)

pub returns-in_err-check_initialise : goal.returns-in_err-check_initialise
unfolding initialising
returns-in_err-check_initialise c =
    rw (handed_on _ _ c.from_residual.ensures.1) (refused_alone _ _ _ 0 _ c.in_err-check_initialise.ensures (in_order _ _ _ _))

pub founded-requires : goal.founded-requires
founded-requires c = (can (goal.at.founded-requires c).In_ok-check_initialise).own_holds

pub enter-requires : goal.enter-requires
enter-requires c = (can (goal.at.enter-requires c).In_ok-check_initialise).room

pub returns-then-is_empty : goal.returns-then-is_empty
unfolding unless entered initialising
returns-then-is_empty c =
    let table : List ℕ = c.args.table.now in
    let area : List ℕ = c.args.area.now in
    rw (← c.in_ok-check_initialise.ensures, sym c.is_empty.ensures ∙ c.if-is_empty.true)
    (c.enter.ensures ∙ ap (λ (h : Head). given (initialise_statement h table) h table area) c.founded.ensures)

pub take_over-requires : goal.take_over-requires
take_over-requires c = takeable _ _ _ _ (can (goal.at.take_over-requires c).In_ok-check_initialise) (sym c.is_empty.ensures ∙ c.if-is_empty.false)

pub returns : goal.returns
unfolding unless initialising taking_over
returns c = rw (← c.in_ok-check_initialise.ensures, sym c.is_empty.ensures ∙ c.if-is_empty.false) c.take_over.ensures
