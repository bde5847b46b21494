-- Each call's contract allows one outcome: two for the same arguments have the same answer, and leave the same head, table and area. Assumes nothing.
use mathlib.Core.Path.{sym, ap, ap₂, ◌∙◌}
use mathlib.Core.List.{[]}
use Prim.Native.Nat.{ℕ, ◌+◌}
use Rattle.std.specs.Result.{result_unwrap_or}
use Rattle.statement.specs.Kinds.{receipt_size, reading_size}
use Rattle.rules.specs.Outcomes.{Outcome, outcome, told, told_place}
use Rattle.rules.proofs.Ones.{OneOf}
use Rattle.ledgers.proofs.Places.{one_row}
use Rattle.reading.proofs.reading.read.Kinds as read
use Rattle.reading.proofs.reading.read.Reads as read-contract
use Rattle.reading.proofs.reading.append_and_read.Kinds as append-and-read
use Rattle.reading.proofs.reading.append_and_read.Reads as append-and-read-contract

-- what an outcome shows besides the table, which a read is lent to read and cannot change
abbrev seen : Outcome → Outcome
seen o = record { answer = o.answer; left = record { head = o.left.head; table = []; area = o.left.area } }

pub read_one : OneOf 2 read.ps read.r Outcome read-contract.Post (λ κs a r e. outcome (told a.0 r) [] e.1.1.1.1.0.now)
read_one κs a r r' e e' p q = ap seen (p ∙ sym q)

-- with the row that moved
pub append_and_read_one :
    OneOf 2 append-and-read.ps append-and-read.r (Outcome × ℕ) append-and-read-contract.Post
    (λ κs a r e. (outcome (told_place a.0 (receipt_size + reading_size) r) e.1.0.now e.1.1.1.1.1.1.0.now, result_unwrap_or r 0))
append_and_read_one κs a r r' e e' p q =
    let same = p.0 ∙ sym q.0 in
    ap₂ (λ (o : Outcome) (i : ℕ). (o, i)) same (one_row _ (receipt_size + reading_size) r r' p.1 q.1 (ap (λ (o : Outcome). o.answer.number) same))
