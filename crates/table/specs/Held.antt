-- What a call answers and leaves where the table is rows that the caller lends. 01, "Keeper record": "The ledger table is 63 rows lent by the caller. The
-- record is sound when the table has 63 rows ..".
use Rattle.std.specs.Prelude.{◌≡◌, Bool, not, cond, Result, Ok, Err, None, Some, List, ℕ, ◌+◌, ◌≤◌, length, eqb, ltb}
use Rattle.std.specs.Option.{unwrap_or}
use Rattle.std.specs.declared.ops.Range.{Range}
use Rattle.refusals.specs.{area_too_short, record_not_sound}
use Rattle.refusals.specs.declared.Refusal.{Refusal}
use Rattle.refusals.specs.Refused.{refusal_number, refusal_height}
use Rattle.rows.specs.Sizes.{most_rows}
use Rattle.rules.specs.declared.Head.{Head}
use Rattle.rules.specs.declared.Answer.{Answer}
use Rattle.rules.specs.declared.Done.{Done}
use Rattle.rules.specs.Outcomes.{Lent, Outcome, accepting, refusing, answer_told}
use Rattle.table.specs.declared.Row.{Row}
use Rattle.table.specs.declared.Left.{Left}
use Rattle.table.specs.Flat.{flattened, rows_of, rows_put}
use Rattle.table.specs.Typed.{AllTyped}

pub record Held : Type 0 where
  pub answer : Answer
  pub head : Head
  pub rows : List Row
  pub area : List ℕ

-- an outcome on flat bytes, with the table as rows
unfoldable pub as_rows : Outcome → Held
as_rows o = record { answer = o.answer; head = o.left.head; rows = rows_of most_rows o.left.table; area = o.left.area }

-- a rule on the flat bytes of the table; the rows after are those of the table that it leaves, if there are 63. A table of another length is not sound:
-- the rule refuses, and nothing changes
unfoldable pub over_rows : (Lent → Outcome) → Head → List Row → List ℕ → Held
over_rows rule head rows area =
    let o : Outcome = rule (record { head = head; table = flattened rows; area = area }) in
    record {
      answer = o.answer;
      head = o.left.head;
      rows = cond (eqb (length rows) most_rows) (rows_of most_rows o.left.table) rows;
      area = o.left.area;
    }

-- what a call on the table's bytes leaves is an outcome, and the rows that it does not name as changed are as they were, as is the head where it names none
unfoldable pub Leaves : Left → Lent → List ℕ → List ℕ → Outcome → Type 0
Leaves l before table area o =
    (record { answer = l.answer; left = record { head = unwrap_or l.head before.head; table = table; area = area } } ≡ o)
    × (l.rows.start ≤ l.rows.end)
    × (l.rows.end ≤ most_rows)
    × (rows_put l.rows.start l.rows.end (rows_of most_rows before.table) (rows_of most_rows table) ≡ rows_of most_rows table)

-- "1, 2" of a record that is not sound, where the area has so many bytes and the call needs so many
abbrev pub other_answer : ℕ → ℕ → Answer
other_answer area size = refusing (cond (ltb area size) area_too_short record_not_sound) 0

-- a rule that, of a table of another length, refuses with this answer and changes nothing
abbrev pub Refuses : (Lent → Outcome) → ℕ → Type 0
Refuses rule size = (head : Head) (rows : List Row) (area : List ℕ) → AllTyped rows → (length rows ≡ most_rows → ⊥)
    → rule (record { head = head; table = flattened rows; area = area })
    ≡ record { answer = other_answer (length area) size; left = record { head = head; table = flattened rows; area = area } }

-- what is left beside the table's bytes after a refusal: nothing has changed
abbrev pub left_refused : Refusal → Left
left_refused r = record { answer = refusing (refusal_number r) (refusal_height r); head = None; rows = record { start = 0; end = 0 } }

-- where a call tells this by its result, with the head named as another one or not
abbrev pub left_named : Result Done Refusal → Bool → Range ℕ → Left
left_named (Ok d) changed rows =
    record { answer = answer_told (Ok d); head = cond changed (Some d.head) None; rows = record { start = rows.start; end = rows.end } }
left_named (Err r) changed rows = left_refused r

-- where it is named unless the call is a repeat
abbrev pub left_by : Result Done Refusal → Range ℕ → Left
left_by result rows = left_named result (not (answer_told result).repeat) rows

-- where a call that writes so many bytes gives the place of the one row that has changed
abbrev pub left_moved : ℕ → Result ℕ Refusal → Left
left_moved written (Ok i) = record { answer = accepting written; head = None; rows = record { start = i; end = i + 1 } }
left_moved written (Err r) = left_refused r
