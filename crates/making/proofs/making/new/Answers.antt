use mathlib.Core.Path.{sym, ap, ap₂, ◌∙◌}
use mathlib.Core.Bool.{false}
use Prim.Native.Nat.{ℕ}
use native.Mathlib.Omega.{arith}
use Rattle.octets.specs.Strings.{put}
use Rattle.statement.specs.declared.Statement.{Statement}
use Rattle.statement.specs.Contents.{statement_written, statement_fits}
use Rattle.statement.proofs.Types.{arrays}
use Rattle.rules.specs.declared.Head.{Head}
use Rattle.rules.specs.Outcomes.{Lent}
use Rattle.rules.specs.Table.{widened}
use Rattle.rules.specs.New.{one_more, making}
use Rattle.ledgers.proofs.Given.{made_length}
use Rattle.rows.proofs.Tables.{fit_length}
use Rattle.rules.proofs.Noted.{Makeable, makeable}
use Rattle.rules.proofs.Tolds.{passed_alone, done_told}
use Rattle.making.proofs.Makes.{no_height, new_fits}
use Rattle.making.proofs.making.new.Goals as goal
use Rattle.making.proofs.making.new.Goals.{In_ok-place}

-- what is known once nothing refuses
can :
    (c : In_ok-place) →
    Makeable (record { head = c.args.head; table = c.args.table.now; area = c.args.area.now }) c.args.label
can c = makeable _ _ (sym c.in_ok-place.ensures.answer)

pub returns-in_err-place : goal.returns-in_err-place
unfolding making
returns-in_err-place c =
    let a = c.args in
    let k : Lent = record { head = a.head; table = a.table.now; area = a.area.now } in
    passed_alone k _ _ _ 0 _ c.from_residual.ensures.1 c.in_err-place.ensures.answer (no_height k a.label)

pub add_row-requires : goal.add_row-requires
add_row-requires c =
    let m = can (goal.at.add_row-requires c).In_ok-place in
    (omega (arith, m.few, m.place, c.in_ok-place.ensures.place), fit_length _ _ m.fit)

pub give-requires : goal.give-requires
give-requires c =
    let m = can (goal.at.give-requires c).In_ok-place in
    let e = c.receipt.ensures in
    (ap statement_fits e ∙ new_fits c.args.head c.args.label m.labelled, rw e m.room)

pub one_more-requires : goal.one_more-requires
one_more-requires c = omega (arith, (can (goal.at.one_more-requires c).In_ok-place).few)

pub returns : goal.returns
unfolding making
returns c =
    let a = c.args in
    let k : Lent = record { head = a.head; table = a.table.now; area = a.area.now } in
    let rc = c.receipt in
    let place = c.in_ok-place.ensures in
    let labelled = (can (goal.at.returns c).In_ok-place).labelled in
    done_told k _ _ 0 _ _ _ _ (one_more a.head) (sym place.answer)
    (ap₂ (λ (n : ℕ) (h : Head). record { written = n; repeat = false; head = h })
    (sym (made_length rc.result _ rc.ensures (arrays rc.result _ rc.type_inv) (new_fits a.head a.label labelled))) c.one_more.ensures)
    (c.add_row.ensures ∙ ap (λ (i : ℕ). widened k.table i a.label) place.place)
    (c.give.ensures ∙ ap (λ (v : Statement). put k.area 0 (statement_written v)) rc.ensures)
