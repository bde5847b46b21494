-- 01, "Append (label, entry digest, expected height as a 64-bit number; 121): 1, 2, 4, 10, 11, 12. Expected must be the row's height plus 1."
use Rattle.std.specs.Prelude.{not, List, [], ◌∷◌, ◌++◌, ℕ, ◌+◌, eqb}
use Rattle.refusals.specs.{no_such_ledger, out_of_order, height_at_top, not_active}
use Rattle.refusals.specs.Order.{◌⇒◌, first}
use Rattle.rows.specs.Sizes.{top_height}
use Rattle.rows.specs.Digests.{appended}
use Rattle.statement.specs.declared.Kind.TheVariants.{Append}
use Rattle.statement.specs.Kinds.{receipt_size}
use Rattle.statement.specs.Contents.{statement_written}
use Rattle.rules.specs.Record.{active}
use Rattle.rules.specs.Outcomes.{Lent, Outcome, given, unless, readiness}
use Rattle.rules.specs.Table.{moved}
use Rattle.rules.specs.Rows.{is_absent, row_number, sought, present_tail, present_height, receipt_of}

-- the tests of an append into an area of so many bytes
unfoldable pub append_refusal : ℕ → Lent → List ℕ → ℕ → ℕ
append_refusal size k label expected =
    first
    (readiness size active not_active k
    ++ (is_absent (sought k label) ⇒ no_such_ledger)
    ∷ (not (eqb expected (present_height k label + 1)) ⇒ out_of_order)
    ∷ (eqb (present_height k label) top_height ⇒ height_at_top)
    ∷ [])

-- the row's tail and height after the entry
abbrev pub next_tail : Lent → List ℕ → List ℕ → List ℕ
next_tail k label entry = appended (present_tail k label) entry

abbrev pub next_height : Lent → List ℕ → ℕ
next_height k label = present_height k label + 1

-- the table with the row moved on
unfoldable pub moved_on : Lent → List ℕ → List ℕ → List ℕ
moved_on k label entry = moved k.table (row_number (sought k label)) (next_tail k label entry) (next_height k label)

-- the statement that is signed
unfoldable pub append_statement : Lent → List ℕ → List ℕ → List ℕ
append_statement k label entry =
    statement_written (receipt_of k.head (Append (next_height k label)) label (next_tail k label entry))

unfoldable pub appending : Lent → List ℕ → List ℕ → ℕ → Outcome
appending k label entry expected =
    unless (append_refusal receipt_size k label expected) (present_height k label) k
    (given (append_statement k label entry) k.head (moved_on k label entry) k.area)
