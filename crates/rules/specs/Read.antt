-- 01, "Read (label, nonce; 137): 1, 2, 4, 10." and "Append and read (258: append's statement, then the read's): as append; if the append is refused the
-- whole call is".
use Rattle.std.specs.Prelude.{List, [], ◌∷◌, ◌++◌, ℕ, ◌+◌, take, drop}
use Rattle.refusals.specs.{no_such_ledger, not_active}
use Rattle.refusals.specs.Order.{◌⇒◌, first}
use Rattle.octets.specs.Numbers.{number_of}
use Rattle.statement.specs.declared.Kind.{Kind}
use Rattle.statement.specs.declared.Kind.TheVariants.{Read}
use Rattle.statement.specs.Kinds.{receipt_size, reading_size, number_bytes}
use Rattle.statement.specs.Contents.{statement_written}
use Rattle.rules.specs.Record.{active}
use Rattle.rules.specs.Outcomes.{Lent, Outcome, given, unless, readiness}
use Rattle.rules.specs.Rows.{is_absent, sought, present_tail, present_height, receipt_of}
use Rattle.rules.specs.Append.{append_refusal, append_statement, moved_on, next_tail, next_height}

-- kind 3 at a height, with the nonce
abbrev pub read_kind : ℕ → List ℕ → Kind
read_kind height nonce = Read height (number_of (take number_bytes nonce)) (number_of (drop number_bytes nonce))

unfoldable pub reading : Lent → List ℕ → List ℕ → Outcome
reading k label nonce =
    unless
    (first
    (readiness reading_size active not_active k
    ++ (is_absent (sought k label) ⇒ no_such_ledger)
    ∷ []))
    0 k
    (given (statement_written (receipt_of k.head (read_kind (present_height k label) nonce) label (present_tail k label))) k.head k.table k.area)

-- the read shows the row after the append
unfoldable pub appending_and_reading : Lent → List ℕ → List ℕ → ℕ → List ℕ → Outcome
appending_and_reading k label entry expected nonce =
    unless (append_refusal (receipt_size + reading_size) k label expected) (present_height k label) k
    (given
    (append_statement k label entry ++ statement_written (receipt_of k.head (read_kind (next_height k label) nonce) label (next_tail k label entry)))
    k.head (moved_on k label entry) k.area)
