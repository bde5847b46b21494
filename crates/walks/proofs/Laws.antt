-- How a call on a lent record is entered and left, whatever its rule: of a table of another length than 63 rows it answers at once, and changes nothing; of one
-- of 63, what the core makes of the table's bytes is what the rule makes of the rows. Assumes nothing.
use mathlib.Core.Path.{◌≡◌, sym, ap, ap₂, subst, ◌∙◌}
use mathlib.Core.List.{List}
use Prim.Native.Nat.{ℕ}
use lib.ListN.{length}
use Rattle.std.specs.Option.{unwrap_or}
use Rattle.rows.specs.Sizes.{most_rows}
use Rattle.rules.specs.declared.Head.{Head}
use Rattle.rules.specs.declared.Answer.{Answer}
use Rattle.rules.specs.Outcomes.{Lent, Outcome}
use Rattle.table.specs.declared.Row.{Row}
use Rattle.table.specs.declared.Left.{Left}
use Rattle.table.specs.Flat.{flattened, rows_of, rows_put}
use Rattle.table.specs.Held.{Leaves, other_answer, over_rows}
use Rattle.table.specs.Typed.{AllTyped}
use Rattle.table.proofs.HeldRows.{over_63, over_other, leaves_held, leaves_rows, answers_held}
use Rattle.table.proofs.Outcomes.{held}

module _ (rule : Lent → Outcome) (head : Head) (rows : List Row) (area : List ℕ) (ts : AllTyped rows) where
  abbrev before : List ℕ → Lent
  before bytes = record { head = head; table = bytes; area = area }

  -- what `other_length` answers, with all as it was lent, is the outcome of a rule that refuses so
  pub refused :
      (size : ℕ) (r : Answer) → (length rows ≡ most_rows → ⊥)
      → rule (before (flattened rows)) ≡ record { answer = other_answer (length area) size; left = before (flattened rows) }
      → r ≡ other_answer (length area) size → held r head rows area ≡ over_rows rule head rows area
  refused size r neq refuses e =
      over_other rule head rows area r neq (refuses ∙ ap (λ (a : Answer). record { answer = a; left = before (flattened rows) }) (sym e))

  -- `bytes` is what `flat_in` made of the rows, and `after` the area after the core
  module _ (same : length rows ≡ most_rows) (bytes after : List ℕ) (flat : bytes ≡ flattened rows) where
    -- where the core leaves `l` beside the table, the head becomes `h`, and `rows_out` makes `new` of the rows
    pub changed :
        (table : List ℕ) (l : Left) (h : Head) (new : List Row) → Leaves l (before bytes) table after (rule (before bytes))
        → h ≡ unwrap_or l.head head → new ≡ rows_put l.rows.start l.rows.end rows (rows_of most_rows table)
        → held l.answer h new after ≡ over_rows rule head rows area
    changed table l h new left at_head at_rows =
        ap₂ (λ (g : Head) (rs : List Row). held l.answer g rs after) at_head at_rows
        ∙ leaves_held l head rows area table after (rule (before (flattened rows))) ts same
        (subst (λ (s : List ℕ). Leaves l (before s) table after (rule (before s))) flat left)
        ∙ over_63 rule head rows area same

    -- where it leaves the table
    pub turned :
        (l : Left) (h : Head) → Leaves l (before bytes) bytes after (rule (before bytes)) → h ≡ unwrap_or l.head head
        → held l.answer h rows after ≡ over_rows rule head rows area
    turned l h left at_head =
        ap (λ (g : Head). held l.answer g rows after) at_head
        ∙ leaves_rows l head rows area after (rule (before (flattened rows))) ts same
        (subst (λ (s : List ℕ). Leaves l (before s) s after (rule (before s))) flat left)
        ∙ over_63 rule head rows area same

    -- where it answers `r` and leaves the record
    pub looked :
        (r : Answer)
        → ◌≡◌ {A = Outcome} (record { answer = r; left = record { head = head; table = bytes; area = after } }) (rule (before bytes))
        → held r head rows after ≡ over_rows rule head rows area
    looked r left =
        answers_held r head rows after (rule (before (flattened rows))) ts same
        (subst
        (λ (s : List ℕ). ◌≡◌ {A = Outcome} (record { answer = r; left = record { head = head; table = s; area = after } }) (rule (before s)))
        flat left)
        ∙ over_63 rule head rows area same
