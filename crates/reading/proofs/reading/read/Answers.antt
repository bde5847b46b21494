use mathlib.Core.Path.{◌≡◌, refl, sym, ap, ◌∙◌}
use native.Mathlib.Omega.{arith}
use mathlib.Core.Bool.{false}
use Prim.Native.Nat.{ℕ}
use lib.ListN.{length}
use Rattle.octets.specs.Strings.{put}
use Rattle.statement.specs.declared.Statement.{Statement}
use Rattle.statement.specs.Kinds.{reading_size}
use Rattle.statement.specs.Contents.{statement_written}
use Rattle.rules.specs.Outcomes.{Lent}
use Rattle.rules.specs.Rows.{present_tail, present_height, receipt_of}
use Rattle.rules.specs.Read.{read_kind, reading}
use Rattle.rules.proofs.Tolds.{passed_alone, done_told}
use Rattle.ledgers.specs.Known.{Findable}
use Rattle.ledgers.proofs.Places.{findable}
use Rattle.reading.proofs.Readings.{found_in_order}
use Rattle.reading.proofs.reading.read.Goals as goal
use Rattle.reading.proofs.reading.read.Goals.{In_ok-i}

-- what is known once the ledger is found
can : (c : In_ok-i) → let a = c.args in Findable reading_size (record { head = a.head; table = a.table.now; area = a.area.now }) a.label
can c = findable reading_size _ _ (sym c.in_ok-i.ensures.answer)

pub returns-in_err-i : goal.returns-in_err-i
unfolding reading
returns-in_err-i c =
    let a = c.args in
    let k : Lent = record { head = a.head; table = a.table.now; area = a.area.now } in
    passed_alone k _ _ _ 0 _ c.from_residual.ensures.1 c.in_err-i.ensures.answer (found_in_order reading_size k a.label)

pub tail_at-requires : goal.tail_at-requires
tail_at-requires c = let f = can (goal.at.tail_at-requires c).In_ok-i in (omega (arith, f.place, c.in_ok-i.ensures.place), f.long)

pub height_at-requires : goal.height_at-requires
height_at-requires c = let f = can (goal.at.height_at-requires c).In_ok-i in (omega (arith, f.place, c.in_ok-i.ensures.place), f.long)

pub show-requires : goal.show-requires
show-requires c =
    let f = can (goal.at.show-requires c).In_ok-i in
    (rw (c.tail_at.ensures, c.height_at.ensures, c.in_ok-i.ensures.place) f.holds, f.room)

pub returns : goal.returns
unfolding reading
returns c =
    let a = c.args in
    let k : Lent = record { head = a.head; table = a.table.now; area = a.area.now } in
    let e : receipt_of a.head (read_kind c.height_at.result a.nonce) a.label c.tail_at.result
    ≡ receipt_of a.head (read_kind (present_height k a.label) a.nonce) a.label (present_tail k a.label) =
    rw (c.tail_at.ensures, c.height_at.ensures, c.in_ok-i.ensures.place) in
    let long : reading_size ≡ length (statement_written (receipt_of a.head (read_kind (present_height k a.label) a.nonce) a.label (present_tail k a.label))) =
    sym c.show.ensures.long ∙ ap (λ (v : Statement). length (statement_written v)) e in
    done_told k _ _ 0 _ _ _ _ a.head (sym c.in_ok-i.ensures.answer) (ap (λ (n : ℕ). record { written = n; repeat = false; head = a.head }) long) refl
    (c.show.ensures.area ∙ ap (λ (v : Statement). put a.area.now 0 (statement_written v)) e)
