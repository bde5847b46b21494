-- The contract of Append many allows one outcome: two for the same arguments have the same answer, leave the same head, table and area, and name the same row.
-- Assumes nothing.
use mathlib.Core.Path.{sym, ap, ap₂, ◌∙◌}
use Prim.Native.Nat.{ℕ}
use Rattle.std.specs.Result.{result_unwrap_or}
use Rattle.statement.specs.Kinds.{receipt_size}
use Rattle.rules.specs.Outcomes.{Outcome, outcome, told_place}
use Rattle.rules.proofs.Ones.{OneOf}
use Rattle.ledgers.proofs.Places.{one_row}
use Rattle.recording.proofs.recording.append_many.Kinds as append-many
use Rattle.recording.proofs.recording.append_many.Reads as append-many-contract

pub append_many_one :
    OneOf 3 append-many.ps append-many.r (Outcome × ℕ) append-many-contract.Post
    (λ κs a r e. (outcome (told_place a.0 receipt_size r) e.1.0.now e.1.1.1.1.1.0.now, result_unwrap_or r 0))
append_many_one κs a r r' e e' p q =
    let same = p.0 ∙ sym q.0 in
    ap₂ (λ (o : Outcome) (i : ℕ). (o, i)) same (one_row _ receipt_size r r' p.1 q.1 (ap (λ (o : Outcome). o.answer.number) same))
