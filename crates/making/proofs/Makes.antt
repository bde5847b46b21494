-- Laws of New: its tests behind readiness, none of which shows a height, and its statement. Assumes nothing.
use mathlib.Core.Path.{◌≡◌, refl}
use mathlib.Core.Bool.{true, false, not}
use mathlib.Core.List.{List, [], ◌∷◌}
use Prim.Native.Nat.{ℕ}
use lib.Dec.{eqb, leb}
use Rattle.refusals.specs.{accepted, out_of_order, label_zero, ledger_exists, company_full, table_full, not_active}
use Rattle.refusals.specs.Order.{◌⇒◌, first}
use Rattle.refusals.proofs.Orders.{lacks, lacking}
use Rattle.octets.specs.Strings.{all_zero}
use Rattle.statement.specs.declared.Kind.TheVariants.{New}
use Rattle.rows.specs.Sizes.{most_rows}
use Rattle.rows.specs.Row.{row_holds}
use Rattle.statement.specs.Kinds.{receipt_size}
use Rattle.statement.specs.Contents.{receipt_fits, fits_as, statement_fits}
use Rattle.statement.specs.Cut.{no_digest}
use Rattle.rules.specs.declared.Head.{Head}
use Rattle.rules.specs.Record.{active}
use Rattle.rules.specs.Outcomes.{Lent, lending, readiness}
use Rattle.rules.specs.Rows.{is_absent, sought, receipt_of}
use Rattle.rules.specs.Companies.{most_of_one}
use Rattle.rules.specs.New.{new_refusal}
use Rattle.rules.proofs.Companies.{own}
use Rattle.ledgers.proofs.Actives.{unready_first, ready_first}

module _ (k : Lent) (label : List ℕ) where
  -- a keeper that is ready leaves the answer to the label
  pub labelled :
      accepted ≡ first (readiness receipt_size active not_active k)
      → new_refusal k label
      ≡ first
      ((all_zero label ⇒ label_zero)
      ∷ (not (is_absent (sought k label)) ⇒ ledger_exists)
      ∷ (leb most_of_one (own k label) ⇒ company_full)
      ∷ (eqb k.head.count most_rows ⇒ table_full)
      ∷ [])
  unfolding new_refusal
  labelled e = ready_first receipt_size k _ accepted e refl

  -- one that is not ready decides it
  pub unready : (n : ℕ) → n ≡ first (readiness receipt_size active not_active k) → (n ≡ accepted → ⊥) → new_refusal k label ≡ n
  unfolding new_refusal
  unready n e refuses = unready_first receipt_size k _ n e refuses

  pub no_height : eqb (new_refusal k label) out_of_order ≡ false
  unfolding new_refusal readiness lending lacks
  no_height = lacking out_of_order _ refl

-- the statement of a new ledger fits
pub new_fits : (h : Head) (label : List ℕ) → all_zero label ≡ false → statement_fits (receipt_of h New label no_digest) ≡ true
unfolding all_zero row_holds receipt_fits fits_as statement_fits
new_fits h label e = rw e
