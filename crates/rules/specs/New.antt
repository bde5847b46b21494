-- 01, "New (label; 121): 1, 2, 4, 14, 9, 13. The row is added in label order at height 0." 02, M-108: "39 in New after 9 and before 13."
use Rattle.std.specs.Prelude.{not, List, [], ◌∷◌, ◌++◌, ℕ, ◌+◌, eqb, leb}
use Rattle.refusals.specs.{label_zero, ledger_exists, company_full, table_full, not_active}
use Rattle.refusals.specs.Order.{◌⇒◌, first}
use Rattle.octets.specs.Strings.{all_zero}
use Rattle.rows.specs.Sizes.{most_rows}
use Rattle.statement.specs.declared.Kind.TheVariants.{New}
use Rattle.statement.specs.Kinds.{receipt_size}
use Rattle.statement.specs.Contents.{statement_written}
use Rattle.statement.specs.Cut.{no_digest}
use Rattle.rules.specs.declared.Head.{Head}
use Rattle.rules.specs.Record.{active}
use Rattle.rules.specs.Outcomes.{Lent, Outcome, given, unless, readiness}
use Rattle.rules.specs.Table.{widened}
use Rattle.rules.specs.Rows.{is_absent, row_number, sought, receipt_of}
use Rattle.rules.specs.Companies.{most_of_one, company, company_rows}

abbrev pub one_more : Head → Head
one_more h = record { status = h.status; count = h.count + 1; key = h.key; identity = h.identity; own = h.own; previous = h.previous; next = h.next }

unfoldable pub new_refusal : Lent → List ℕ → ℕ
new_refusal k label =
    first
    (readiness receipt_size active not_active k
    ++ (all_zero label ⇒ label_zero)
    ∷ (not (is_absent (sought k label)) ⇒ ledger_exists)
    ∷ (leb most_of_one (company_rows k.head.count k.table (company label)) ⇒ company_full)
    ∷ (eqb k.head.count most_rows ⇒ table_full)
    ∷ [])

unfoldable pub making : Lent → List ℕ → Outcome
making k label =
    unless (new_refusal k label) 0 k
    (given (statement_written (receipt_of k.head New label no_digest)) (one_more k.head)
    (widened k.table (row_number (sought k label)) label) k.area)
