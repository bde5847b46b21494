use mathlib.Core.Path.{◌≡◌, ap, ◌∙◌}
use mathlib.Core.List.{List}
use Prim.Native.Nat.{ℕ, ◌+◌}
use native.Mathlib.Omega.{arith}
use Rattle.octets.specs.Strings.{put}
use Rattle.rows.specs.Row.{tail_of, height_of}
use Rattle.rows.specs.Digests.{appended}
use Rattle.statement.specs.declared.Kind.TheVariants.{Append}
use Rattle.statement.specs.declared.Statement.{Statement}
use Rattle.statement.specs.Contents.{statement_written, statement_fits}
use Rattle.statement.proofs.Types.{arrays}
use Rattle.rules.specs.Outcomes.{Lent}
use Rattle.rules.specs.Table.{moved}
use Rattle.rules.specs.Rows.{receipt_of}
use Rattle.rules.specs.Append.{next_tail, next_height, append_statement, moved_on}
use Rattle.ledgers.proofs.Given.{made_length}
use Rattle.appending.proofs.Entries.{append_fits, moved_receipt}
use Rattle.appending.proofs.appending.enter.Goals as goal
use Rattle.appending.proofs.appending.enter.Goals.{After-receipt}

given_receipt :
    (c : After-receipt) →
    let a = c.args in
    let k : Lent = record { head = a.head; table = a.table.now; area = a.area.now } in
    c.receipt.result ≡ receipt_of a.head (Append (next_height k a.label)) a.label (next_tail k a.label a.entry)
given_receipt c =
    let moves = c in
    let a = moves.args in
    let k : Lent = record { head = a.head; table = a.table.now; area = a.area.now } in
    moved_receipt k a.label a.entry Append c.receipt.result _ _ _ c.receipt.ensures moves.move_on-row.ensures.tail moves.move_on-row.ensures.height
    moves.requires.1

pub move_on-row-requires : goal.move_on-row-requires
move_on-row-requires c =
    let m = c.requires.0 in
    let place = c.requires.1 in
    (omega (arith, m.there.place, place), m.there.long, rw place m.below)

pub give-requires : goal.give-requires
give-requires c =
    let entry = c in
    let e = given_receipt (goal.at.give-requires c).After-receipt in
    (ap statement_fits e ∙ append_fits entry.args.head _ _ _ (entry.requires.0.next _), rw e entry.requires.0.there.room)

pub returns : goal.returns
unfolding append_statement moved_on
returns c =
    let given = (goal.at.returns c).After-receipt in
    let moves = c in
    let a = moves.args in
    let m = moves.requires.0 in
    let t : List ℕ = a.table.now in
    let place = moves.requires.1 in
    let e = given_receipt given in
    record {
      moves = moves.move_on-row.ensures.table ∙ ap (λ (i : ℕ). moved t i (appended (tail_of t i) a.entry) (height_of t i + 1)) place;
      writes = c.give.ensures ∙ ap (λ (v : Statement). put a.area.now 0 (statement_written v)) e;
      long = made_length given.receipt.result _ e (arrays given.receipt.result _ given.receipt.type_inv) (append_fits a.head _ _ _ (m.next _));
      tails = moves.move_on-row.ensures.tail ∙ ap (λ (i : ℕ). appended (tail_of t i) a.entry) place;
      heights = moves.move_on-row.ensures.height ∙ ap (λ (i : ℕ). height_of t i + 1) place;
    }
