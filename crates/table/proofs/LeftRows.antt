-- What a call leaves where the table is rows: rows as their type has them, whose bytes are the table that its rule leaves; and what was lent, where it refuses.
-- Assumes nothing.
use mathlib.Core.Path.{◌≡◌, refl, sym, ap, ◌∙◌}
use mathlib.Core.Bool.{Bool, true, false, cond}
use mathlib.Core.List.{List}
use Prim.Native.Nat.{ℕ, ◌*◌}
use native.Mathlib.Omega.{arith}
use borrow.Author.Tests.{eqb-true, eqb-false}
use lib.ListN.{length}
use lib.Dec.{eqb}
use Rattle.refusals.specs.{accepted}
use Rattle.rows.specs.Sizes.{most_rows, row_bytes}
use Rattle.rules.specs.declared.Head.{Head}
use Rattle.rules.specs.declared.Answer.{Answer}
use Rattle.rules.specs.Outcomes.{Lent, Outcome}
use Rattle.rules.proofs.Refused.{Spares}
use Rattle.rules.proofs.TablesLeft.{Whole, Leaves, stays, changes, leaves_whole}
use Rattle.table.specs.declared.Row.{Row}
use Rattle.table.specs.Flat.{flattened, rows_of}
use Rattle.table.specs.Held.{Held, over_rows}
use Rattle.table.proofs.RowTrips.{AllTyped, flattened-length, flattened_octets, flattened_rows, rows-flattened, rows_of_typed}
use Rattle.table.proofs.HeldRows.{other_table}

module _ (rows : List Row) (ts : AllTyped rows) where
  -- 63 rows
  pub rows_whole : length rows ≡ most_rows → Whole (flattened rows)
  rows_whole e = record { long = flattened-length ts ∙ ap (λ (n : ℕ). row_bytes * n) e; bytes = flattened_octets ts }

  -- rows of another number stay
  other_stays : {t : List ℕ} → (length rows ≡ most_rows → ⊥) → Leaves (flattened rows) t → t ≡ flattened rows
  other_stays n (stays e) = e
  other_stays n (changes l m o) = absurd (other_table rows ts n l)

  rows_again : (b : Bool) → eqb (length rows) most_rows ≡ b → cond b (rows_of most_rows (flattened rows)) rows ≡ rows
  rows_again true e = ap (λ (n : ℕ). rows_of n (flattened rows)) (sym (eqb-true (length rows) most_rows e)) ∙ rows-flattened ts
  rows_again false e = refl

  module _ (rule : Lent → Outcome) (head : Head) (area : List ℕ) where
    abbrev before : Lent
    before = record { head = head; table = flattened rows; area = area }

    -- the bytes of the rows that are left are the table that the rule leaves, for any number of rows
    pub rows_left :
        Leaves (flattened rows) (rule before).left.table
        → (flattened (over_rows rule head rows area).rows ≡ (rule before).left.table) × AllTyped (over_rows rule head rows area).rows
    unfolding over_rows
    rows_left l = go (eqb (length rows) most_rows) refl
      where
        go : (b : Bool) → eqb (length rows) most_rows ≡ b
            → (flattened (cond b (rows_of most_rows (rule before).left.table) rows) ≡ (rule before).left.table)
            × AllTyped (cond b (rows_of most_rows (rule before).left.table) rows)
        go true e =
            let w = leaves_whole l (rows_whole (eqb-true (length rows) most_rows e)) in
            let t : List ℕ = (rule before).left.table in
            (flattened_rows most_rows t (sym w.long) w.bytes, rows_of_typed most_rows t (omega (arith, w.long)) w.bytes)
        go false e = (sym (other_stays (eqb-false (length rows) most_rows e) l), ts)

    -- "A refusal .. changes nothing lent."
    pub refused_leaves :
        Spares before (rule before) → ((over_rows rule head rows area).answer.number ≡ accepted → ⊥)
        → over_rows rule head rows area ≡ record { answer = (over_rows rule head rows area).answer; head = head; rows = rows; area = area }
    unfolding over_rows
    refused_leaves spares refuses =
        let o : Outcome = rule before in
        let b : Bool = eqb (length rows) most_rows in
        ap (λ (k : Lent). record { answer = o.answer; head = k.head; rows = cond b (rows_of most_rows k.table) rows; area = k.area }) (spares refuses)
        ∙ ap (λ (l : List Row). record { answer = o.answer; head = head; rows = l; area = area }) (rows_again b refl)

    -- the same of whatever is said to be what the rule leaves
    pub spared :
        Spares before (rule before) → (x : Held) → x ≡ over_rows rule head rows area → (x.answer.number ≡ accepted → ⊥)
        → x ≡ record { answer = x.answer; head = head; rows = rows; area = area }
    spared spares x e refuses =
        e ∙ refused_leaves spares (λ z. refuses (ap (λ (y : Held). y.answer.number) e ∙ z))
        ∙ ap (λ (a : Answer). record { answer = a; head = head; rows = rows; area = area }) (ap (λ (y : Held). y.answer) (sym e))
