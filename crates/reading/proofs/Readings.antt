-- Laws of a read: its statement fits, and no test is of the order of entries. Assumes nothing.
use mathlib.Core.Path.{◌≡◌, refl}
use mathlib.Core.Bool.{true, false}
use mathlib.Core.List.{List}
use Prim.Native.Nat.{ℕ}
use Rattle.octets.specs.Strings.{all_zero}
use Rattle.rows.specs.Row.{row_holds}
use Rattle.statement.specs.declared.Kind.TheVariants.{Read}
use Rattle.statement.specs.Contents.{receipt_fits, fits_as, statement_fits}
use Rattle.rules.specs.declared.Head.{Head}
use Rattle.rules.specs.Rows.{receipt_of}
use Rattle.rules.specs.Outcomes.{Lent, lending, readiness}
use Rattle.refusals.specs.{out_of_order}
use Rattle.refusals.specs.Order.{first}
use Rattle.refusals.proofs.Orders.{lacks, lacking}
use Rattle.ledgers.specs.Tests.{found}
use lib.Dec.{eqb}

pub read_fits :
    (h : Head) (label tail : List ℕ) (height high low : ℕ) → row_holds label tail height ≡ true
    → statement_fits (receipt_of h (Read height high low) label tail) ≡ true
unfolding all_zero receipt_fits fits_as statement_fits
read_fits h label tail height high low e = rw e

-- no test of a read is of the order of entries
pub found_in_order : (size : ℕ) (k : Lent) (label : List ℕ) → eqb (first (found size k label)) out_of_order ≡ false
unfolding readiness lending lacks
found_in_order size k label = lacking out_of_order (found size k label) refl
