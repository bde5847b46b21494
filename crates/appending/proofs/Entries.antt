-- Laws of an append that nothing refuses: what it may count on, and its receipt. Assumes nothing.
use mathlib.Core.Path.{◌≡◌, refl}
use mathlib.Core.Bool.{true, not}
use mathlib.Core.List.{List}
use Prim.Native.Nat.{ℕ, ◌+◌, ◌≤◌, ◌<◌}
use native.Mathlib.Omega.{arith}
use borrow.Author.Tests.{eqb-false, le-leb}
use lib.Dec.{eqb}
use Rattle.refusals.specs.{accepted, out_of_order, height_at_top}
use Rattle.refusals.proofs.Orders.{numbered, passes, none_refuses}
use Rattle.octets.specs.Strings.{all_zero}
use Rattle.rows.specs.Sizes.{top_height}
use Rattle.rows.specs.Row.{tail_of, height_of, row_holds}
use Rattle.rows.specs.Digests.{appended}
use Rattle.statement.specs.declared.Kind.{Kind}
use Rattle.statement.specs.declared.Kind.TheVariants.{Append}
use Rattle.statement.specs.declared.Statement.{Statement}
use Rattle.statement.specs.Contents.{receipt_fits, fits_as, statement_fits}
use Rattle.rules.specs.declared.Head.{Head}
use Rattle.rules.specs.Outcomes.{Lent, lending, readiness}
use Rattle.rules.specs.Rows.{row_number, sought, present_tail, present_height, receipt_of}
use Rattle.rules.specs.Append.{append_refusal, next_tail, next_height}
use Rattle.rules.proofs.FoundRows.{row_labelled, row_below, row_next}
use Rattle.ledgers.specs.Tests.{found}
use Rattle.ledgers.proofs.Places.{findable}
use Rattle.appending.specs.Known.{Appendable}
use Rattle.appending.specs.Tests.{ordered}

-- room for more bytes is room for fewer
pub fewer : {n : ℕ} {k : Lent} {label : List ℕ} (m : ℕ) → m ≤ n → Appendable n k label → Appendable m k label
fewer m h a =
    record {
      there = record { room = omega (arith, a.there.room); long = a.there.long; place = a.there.place; holds = a.there.holds };
      below = a.below;
      next = a.next;
    }

pub appendable : (size : ℕ) (k : Lent) (label : List ℕ) (expected : ℕ) → append_refusal size k label expected ≡ accepted → Appendable size k label
unfolding readiness lending numbered append_refusal
appendable size k label expected e =
    let height : ℕ = present_height k label in
    let p = none_refuses (found size k label) (ordered expected height) refl e in
    let there = findable size k label p.0 in
    let a = passes (not (eqb expected (height + 1))) out_of_order _ (eqb-false 11 0 refl) p.1 in
    let b = passes (eqb height top_height) height_at_top _ (eqb-false 12 0 refl) a.1 in
    let top : (height ≡ top_height → ⊥) = eqb-false height top_height b.0 in
    let below : height < top_height = omega (arith, row_below label (present_tail k label) height there.holds) in
    record {
      there = there;
      below = below;
      next = λ tail. row_next label tail height (row_labelled label (present_tail k label) height there.holds) below;
    }

pub append_fits :
    (h : Head) (label tail : List ℕ) (height : ℕ) → row_holds label tail (height + 1) ≡ true
    → statement_fits (receipt_of h (Append (height + 1)) label tail) ≡ true
unfolding all_zero receipt_fits fits_as statement_fits
append_fits h label tail height e = rw (le-leb 1 (height + 1) (omega arith), e)

-- a receipt of row i after an entry is one of the row that the label names
pub moved_receipt :
    (k : Lent) (label entry : List ℕ) (kind : ℕ → Kind) (v : Statement) (i height : ℕ) (tail : List ℕ)
    → v ≡ receipt_of k.head (kind height) label tail → tail ≡ appended (tail_of k.table i) entry → height ≡ height_of k.table i + 1
    → i ≡ row_number (sought k label) → v ≡ receipt_of k.head (kind (next_height k label)) label (next_tail k label entry)
moved_receipt k label entry kind v i height tail e t h p = rw (e, t, h, p)
