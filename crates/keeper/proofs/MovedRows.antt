-- The one row that an append moves on: its place, and that no other row and not the head changes. Assumes nothing.
use mathlib.Core.Path.{◌≡◌, sym, ap, ◌∙◌}
use mathlib.Core.List.{List}
use Prim.Native.Nat.{ℕ, ◌+◌, ◌<◌}
use lib.ListN.{length}
use native.Mathlib.Omega.{arith}
use Rattle.std.specs.Prelude.{IfOk, Result, Ok, Err}
use Rattle.refusals.specs.{accepted}
use Rattle.refusals.specs.declared.Refusal.{Refusal}
use Rattle.hash.proofs.Promised.{sha256-length}
use Rattle.rows.specs.Sizes.{tail_bytes, most_rows}
use Rattle.rows.specs.Digests.{appended}
use Rattle.statement.specs.Kinds.{receipt_size}
use Rattle.rules.specs.Outcomes.{Lent, Outcome, outcome, told_place, given, unless}
use Rattle.rules.specs.Table.{moved}
use Rattle.rules.specs.Rows.{present_tail, present_height}
use Rattle.rules.specs.Append.{append_refusal, next_tail, next_height, moved_on}
use Rattle.rules.specs.AppendMany.{entries, append_many_refusal, last_tail, last_height, moved_by_all, last_statement, appending_many}
use Rattle.rules.proofs.Noted.{row_of, Rowed, appendable, recordable}
use Rattle.rules.proofs.Refused.{Spares, appending_many_spares}
use Rattle.rules.proofs.TablesLeft.{grown_digest}
use Rattle.table.specs.declared.Left.{Left}
use Rattle.table.specs.Held.{Leaves, left_moved}
use Rattle.table.proofs.RowsPut.{row_moved}
use Rattle.table.proofs.Leaves.{Stays, leaves_moved, accepted-table}

-- a call that gives these bytes and moves the ledger's row on to a tail and a height
module _ (n height : ℕ) (k : Lent) (label bytes tail : List ℕ) (top : ℕ) (has : n ≡ accepted → Rowed k label)
    (sized : n ≡ accepted → length tail ≡ tail_bytes) where
  abbrev after : List ℕ
  after = moved k.table (row_of k label) tail top

  abbrev end : Outcome
  end = unless n height k (given bytes k.head after k.area)

  abbrev Gives : ℕ → Result ℕ Refusal → List ℕ → List ℕ → Type 0
  Gives size place table area = outcome (told_place k.head size place) table area ≡ end

  abbrev Placed : Result ℕ Refusal → Type 0
  Placed place = IfOk place (λ i. i ≡ row_of k label)

  module _ (size : ℕ) (table area : List ℕ) where
    accepts : (i : ℕ) → Gives size (Ok i) table area → (n ≡ accepted) × (end.left.table ≡ after)
    accepts i e = accepted-table n height k bytes after (ap (λ (o : Outcome). o.answer.number) (sym e))

    pub row_below : (place : Result ℕ Refusal) → Gives size place table area → Placed place → IfOk place (λ i. i < most_rows)
    row_below (Ok i) e p = let r = has (accepts i e).0 in omega (arith, p, r.long, r.within)
    row_below (Err r) e p = tt

    one_row : (place : Result ℕ Refusal) → Gives size place table area → Placed place
        → IfOk place (λ i. Stays k table (record { start = i; end = i + 1 }))
    one_row (Ok i) e p =
        let there = accepts i e in
        let left : table ≡ after = ap (λ (o : Outcome). o.left.table) e ∙ there.1 in
        let r = has there.0 in
        let below : row_of k label < most_rows = omega (arith, r.long, r.within) in
        (omega arith, omega (arith, p, below), rw (p, left) (row_moved k.table (row_of k label) tail top below r.long (sized there.0)))
    one_row (Err r) e p = tt

    pub row_leaves :
        (place : Result ℕ Refusal) → Gives size place table area → Placed place → (l : Left) → l ≡ left_moved size place → Spares k end
        → Leaves l k table area end
    row_leaves place e p l is spares = leaves_moved size place k table area end e l is spares (one_row place e p)

-- an append into an area of so many bytes
module _ (size height : ℕ) (k : Lent) (label entry : List ℕ) (expected : ℕ) (bytes : List ℕ) where
  abbrev append_end : Outcome
  append_end = unless (append_refusal size k label expected) height k (given bytes k.head (moved_on k label entry) k.area)

  module _ (place : Result ℕ Refusal) (table area : List ℕ) (e : outcome (told_place k.head size place) table area ≡ append_end)
      (p : IfOk place (λ i. i ≡ row_of k label)) where
    pub place_below : IfOk place (λ i. i < most_rows)
    unfolding moved_on appended
    place_below =
        row_below (append_refusal size k label expected) height k label bytes (next_tail k label entry) (next_height k label)
        (λ a. (appendable size k label expected a).has) (λ a. sha256-length _) size table area place e p

    pub one_moved : (l : Left) → l ≡ left_moved size place → Spares k append_end → Leaves l k table area append_end
    unfolding moved_on appended
    one_moved =
        row_leaves (append_refusal size k label expected) height k label bytes (next_tail k label entry) (next_height k label)
        (λ a. (appendable size k label expected a).has) (λ a. sha256-length _) size table area place e p

-- an append of many
module _ (k : Lent) (label list : List ℕ) (expected : ℕ) where
  abbrev number : ℕ
  number = append_many_refusal receipt_size k label list expected

  has_row : number ≡ accepted → Rowed k label
  has_row a = (recordable receipt_size k label list expected a).has

  tail_sized : number ≡ accepted → length (last_tail k label list) ≡ tail_bytes
  tail_sized a = (grown_digest (present_tail k label) list (entries list) (recordable receipt_size k label list expected a).some).long

  module _ (place : Result ℕ Refusal) (table area : List ℕ)
      (e : outcome (told_place k.head receipt_size place) table area ≡ appending_many k label list expected)
      (p : IfOk place (λ i. i ≡ row_of k label)) where
    pub many_below : IfOk place (λ i. i < most_rows)
    unfolding appending_many moved_by_all
    many_below =
        row_below number (present_height k label) k label (last_statement k label list) (last_tail k label list) (last_height k label list) has_row tail_sized
        receipt_size table area place e p

    pub many_moved : (l : Left) → l ≡ left_moved receipt_size place → Leaves l k table area (appending_many k label list expected)
    unfolding appending_many moved_by_all
    many_moved l is =
        row_leaves number (present_height k label) k label (last_statement k label list) (last_tail k label list) (last_height k label list) has_row tail_sized
        receipt_size table area place e p l is (appending_many_spares k label list expected)
