use mathlib.Core.Path.{◌≡◌, refl, sym}
use mathlib.Core.Bool.{true}
use Prim.Native.Nat.{◌≤◌}
use borrow.Author.Tests.{eq-eqb, ne_eqb}
use lib.ListN.{length}
use Rattle.rows.specs.Table.{rows_fit}
use Rattle.rules.specs.Outcomes.{Lent, given, again, unless}
use Rattle.rules.specs.Finalise.{finalise_size, finalise_refusal, leaving, finalising}
use Rattle.rules.proofs.Tolds.{refused_alone, handed_on}
use Rattle.leaving.proofs.Leaves.{can_speak, next-holds, lent_in_order, left_in_order}
use Rattle.leaving.proofs.finalising.finalise.Goals as goal
use Rattle.leaving.proofs.finalising.finalise.Goals.{In_ok-check_lent}

-- what is known once room and soundness are there
can : (c : In_ok-check_lent) → (rows_fit c.args.head.count c.args.table.now ≡ true) × (finalise_size ≤ length c.args.area.now)
can c = can_speak _ _ c.in_ok-check_lent.ensures refl

pub returns-in_err-check_lent : goal.returns-in_err-check_lent
unfolding finalising
returns-in_err-check_lent c = rw (handed_on _ _ c.from_residual.ensures.1) (refused_alone _ _ _ 0 _ c.in_err-check_lent.ensures (lent_in_order _))

pub speak-requires : goal.speak-requires
speak-requires c = can (goal.at.speak-requires c).In_ok-check_lent

pub returns-then-head-eq-FINALISED : goal.returns-then-head-eq-FINALISED
unfolding again unless finalising
returns-then-head-eq-FINALISED c =
    rw (
      ← c.in_ok-check_lent.ensures,
      eq-eqb _ _ c.if-head-eq-FINALISED.true,
      c.speak.ensures.0,
      c.speak.ensures.1,
    )

pub returns-in_err-check_finalise : goal.returns-in_err-check_finalise
unfolding unless finalise_refusal leaving finalising
returns-in_err-check_finalise c =
    let k : Lent = record { head = c.args.head; table = c.args.table.now; area = c.args.area.now } in
    rw (← c.in_ok-check_lent.ensures, ne_eqb _ _ c.if-head-eq-FINALISED.false, handed_on _ _ c.from_residual-in_err-check_finalise.ensures.1)
    (refused_alone k _ _ 0 _ c.in_err-check_finalise.ensures (left_in_order k c.args.next.now))

pub leave-left-requires : goal.leave-left-requires
leave-left-requires c = next-holds _ _ (sym c.in_ok-check_finalise.ensures)

pub speak-requires-2 : goal.speak-requires-2
speak-requires-2 c = rw c.leave-left.ensures (can (goal.at.speak-requires-2 c).In_ok-check_lent)

pub returns : goal.returns
unfolding given unless finalise_refusal leaving finalising
returns c =
    rw (
      ← c.in_ok-check_lent.ensures,
      ne_eqb _ _ c.if-head-eq-FINALISED.false,
      ← c.in_ok-check_finalise.ensures,
      c.speak-2.ensures.0,
      c.speak-2.ensures.1,
      c.leave-left.ensures,
    )
