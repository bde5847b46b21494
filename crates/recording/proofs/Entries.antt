-- Laws of an append of many that nothing refuses: what it may count on, and its receipt. Assumes nothing.
use mathlib.Core.Path.{◌≡◌, refl}
use mathlib.Core.Bool.{true}
use mathlib.Core.List.{List}
use Prim.Native.Nat.{ℕ, ◌+◌, ◌-◌, ◌≤◌}
use native.Mathlib.Omega.{arith}
use borrow.Author.Tests.{eqb-false, le-leb}
use Rattle.refusals.specs.{accepted, not_active}
use Rattle.octets.specs.Strings.{all_zero}
use Rattle.rows.specs.Row.{row_holds}
use Rattle.rows.proofs.Tables.{fit_count}
use Rattle.rows.proofs.Searches.{found_is}
use Rattle.statement.specs.declared.Kind.TheVariants.{Append}
use Rattle.statement.specs.Kinds.{receipt_size}
use Rattle.statement.specs.Contents.{receipt_fits, fits_as, statement_fits}
use Rattle.rules.specs.declared.Head.{Head}
use Rattle.rules.specs.Record.{active}
use Rattle.rules.specs.Outcomes.{Lent}
use Rattle.rules.specs.Rows.{present_tail, present_height, receipt_of}
use Rattle.rules.specs.AppendMany.{entries, append_many_refusal, last_height}
use Rattle.rules.proofs.Firsts.{ready, sound_rows}
use Rattle.rules.proofs.FoundRows.{row_labelled, row_next}
use Rattle.rules.proofs.Noted.{row_of}
use Rattle.rules.proofs.Noted as noted
use Rattle.recording.specs.Known.{Recordable}

pub recordable : (k : Lent) (label list : List ℕ) (expected : ℕ) → append_many_refusal receipt_size k label list expected ≡ accepted → Recordable k label list
unfolding append_many_refusal
recordable k label list expected e =
    let a = noted.recordable receipt_size k label list expected e in
    let r = ready receipt_size active not_active k _ (eqb-false 4 0 refl) e in
    let fit = sound_rows k.head k.table r.0.sounds in
    let height = present_height k label in
    let named = row_labelled label (present_tail k label) height a.has.holds in
    let n : height + (entries list - 1) + 1 ≡ last_height k label list = omega (arith, a.some) in
    record {
      room = r.0.room;
      long = a.has.long;
      place = omega (arith, (found_is k.head.count k.table label (row_of k label) fit a.has.found).0, fit_count k.head.count k.table fit);
      some = a.some;
      below_top = a.below_top;
      last = λ tail. rw n at (row_next label tail (height + (entries list - 1)) named (omega (arith, a.some, a.below_top)));
    }

pub last_fits :
    (h : Head) (label tail : List ℕ) (height : ℕ) → 1 ≤ height → row_holds label tail height ≡ true
    → statement_fits (receipt_of h (Append height) label tail) ≡ true
unfolding all_zero receipt_fits fits_as statement_fits
last_fits h label tail height low e = rw (le-leb 1 height low, e)
