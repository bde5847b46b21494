-- What a call may count on whose ledger is found, and its place. Assumes nothing.
use mathlib.Core.Path.{◌≡◌, refl, sym, ◌∙◌}
use mathlib.Core.Bool.{true}
use mathlib.Core.List.{List, []}
use Prim.Native.Nat.{ℕ}
use native.Mathlib.Omega.{arith}
use borrow.Author.Tests.{eqb-false}
use Rattle.refusals.specs.{accepted, no_such_ledger, not_active}
use Rattle.refusals.specs.declared.Refusal.{Refusal}
use Rattle.refusals.specs.Order.{first}
use Rattle.refusals.proofs.Answered.{number_refuses}
use Rattle.refusals.proofs.Orders.{passes}
use Rattle.std.specs.Prelude.{Result, Ok, Err, IfOk}
use Rattle.std.specs.Result.{result_unwrap_or}
use Rattle.rows.specs.Table.{rows_fit}
use Rattle.rows.proofs.Tables.{fit_length, fit_count}
use Rattle.rules.specs.Record.{active}
use Rattle.rules.specs.Outcomes.{Lent, answer_placed}
use Rattle.rules.specs.Rows.{is_absent, sought}
use Rattle.rules.proofs.FoundRows.{row_found}
use Rattle.rules.proofs.Firsts.{ready, sound_rows}
use Rattle.ledgers.specs.Known.{Findable}
use Rattle.ledgers.specs.Tests.{found}

pub findable : (size : ℕ) (k : Lent) (label : List ℕ) → first (found size k label) ≡ accepted → Findable size k label
findable size k label e =
    let r = ready size active not_active k _ (eqb-false 4 0 refl) e in
    let a = passes (is_absent (sought k label)) no_such_ledger [] (eqb-false 10 0 refl) r.1 in
    let fit : rows_fit k.head.count k.table ≡ true = sound_rows k.head k.table r.0.sounds in
    let row = row_found k.head.count k.table label fit a.0 in
    record {
      room = r.0.room;
      long = fit_length k.head.count k.table fit;
      place = omega (arith, row.0, fit_count k.head.count k.table fit);
      holds = row.1;
    }

-- one answer, one row
pub one_row :
    (n w : ℕ) (q p : Result ℕ Refusal) → IfOk q (λ i. i ≡ n) → IfOk p (λ i. i ≡ n)
    → (answer_placed w q).number ≡ (answer_placed w p).number → result_unwrap_or q 0 ≡ result_unwrap_or p 0
one_row n w (Ok i) (Ok j) e f s = e ∙ sym f
one_row n w (Ok i) (Err r) e f s = absurd (number_refuses r (sym s))
one_row n w (Err r) (Ok i) e f s = absurd (number_refuses r s)
one_row n w (Err r) (Err t) e f s = refl
