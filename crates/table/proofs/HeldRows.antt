-- Laws of what a call leaves with the table as rows. Assumes nothing.
use mathlib.Core.Path.{◌≡◌, refl, sym, ap, ◌∙◌}
use mathlib.Core.Bool.{Bool, true, false, cond, ◌&&◌}
use mathlib.Core.List.{List, ◌∷◌, ◌++◌}
use Prim.Native.Nat.{ℕ, ◌*◌, ◌≤◌}
use native.Mathlib.Omega.{arith}
use borrow.Author.Tests.{eq-eqb, ne_eqb}
use lib.ListN.{length}
use lib.Dec.{eqb, leb, ltb}
use Rattle.std.specs.Option.{unwrap_or}
use Rattle.refusals.specs.{area_too_short, record_not_sound}
use Rattle.refusals.specs.Order.{Test, ◌⇒◌, first}
use Rattle.rows.specs.Sizes.{most_rows, row_bytes, table_bytes}
use Rattle.rows.specs.Table.{rows_fit}
use Rattle.rules.specs.declared.Head.{Head}
use Rattle.rules.specs.declared.Answer.{Answer}
use Rattle.rules.specs.Record.{blank, finalised, sound}
use Rattle.rules.specs.Outcomes.{Lent, Outcome, refusing, refused, unless, lending, readiness}
use Rattle.table.specs.declared.Row.{Row}
use Rattle.table.specs.declared.Asked.{Asked}
use Rattle.table.specs.declared.Left.{Left}
use Rattle.table.specs.Flat.{flattened, rows_of, rows_put}
use Rattle.table.specs.Held.{Held, Leaves, as_rows, over_rows, other_answer}
use Rattle.table.proofs.RowTrips.{AllTyped, flattened-length, rows-flattened}

module _ (rule : Lent → Outcome) (head : Head) (rows : List Row) (area : List ℕ) where
  abbrev lent : Lent
  lent = record { head = head; table = flattened rows; area = area }

  -- a table of 63 rows
  pub over_63 : length rows ≡ most_rows → as_rows (rule lent) ≡ over_rows rule head rows area
  unfolding as_rows over_rows
  over_63 e = rw (eq-eqb (length rows) most_rows e)

  -- another one, where the rule changes nothing
  pub over_other : (a : Answer) → (length rows ≡ most_rows → ⊥) → rule lent ≡ record { answer = a; left = lent }
      → ◌≡◌ {A = Held} (record { answer = a; head = head; rows = rows; area = area }) (over_rows rule head rows area)
  unfolding over_rows
  over_other a n e = rw (ne_eqb (length rows) most_rows n, e)

pub other_table : (rows : List Row) → AllTyped rows → (length rows ≡ most_rows → ⊥) → length (flattened rows) ≡ table_bytes → ⊥
other_table rows ts n e =
    let l : length (flattened rows) ≡ row_bytes * length rows = flattened-length ts in
    n (omega arith)

last_false : (a b c : Bool) → c ≡ false → (a && b && c) ≡ false
last_false true true c e = e
last_false true false c e = refl
last_false false b c e = refl

-- a table of another length is not sound
pub unsound : (head : Head) (rows : List Row) → AllTyped rows → (length rows ≡ most_rows → ⊥) → sound head (flattened rows) ≡ false
unfolding sound rows_fit
unsound head rows ts n =
    last_false (leb head.status finalised) (cond (eqb head.status blank) (eqb head.count 0) true) _ (rw (ne_eqb (length (flattened rows)) table_bytes
    (other_table rows ts n)))

-- "1, 2", whatever is asked after them
pub one_or_two : (b : Bool) (rest : List Test) (height : ℕ) (k : Lent) (effect : Outcome)
    → unless (first ((b ⇒ area_too_short) ∷ (true ⇒ record_not_sound) ∷ rest)) height k effect ≡ record {
      answer = refusing (cond b area_too_short
          record_not_sound) 0;
      left = k;
    }
unfolding first refused unless
one_or_two true rest height k effect = refl
one_or_two false rest height k effect = refl

-- "1, 2" where the record is not sound
pub refuses : (size status number : ℕ) (k : Lent) (rest : List Test) (height : ℕ) (effect : Outcome) → sound k.head k.table ≡ false
    → unless (first (readiness size status number k ++ rest)) height k effect ≡ record { answer = other_answer (length k.area) size; left = k }
unfolding lending readiness
refuses size status number k rest height effect e = rw e (one_or_two (ltb (length k.area) size) _ height k effect)

-- a rule that refuses a table of another length with 1 or 2
abbrev pub RefusesOther : (Lent → Asked → Outcome) → ℕ → Type 0
RefusesOther rule size = (head : Head) (rows : List Row) (asked : Asked) (area : List ℕ) → AllTyped rows → (length rows ≡ most_rows → ⊥)
    → rule (record { head = head; table = flattened rows; area = area }) asked
    ≡ record { answer = other_answer (length area) size; left = record { head = head; table = flattened rows; area = area } }

-- what a core leaves, written back where it changed, is the outcome
pub leaves_held :
    (l : Left) (head : Head) (rows : List Row) (area table after : List ℕ) (o : Outcome) → AllTyped rows → length rows ≡ most_rows
    → Leaves l (record { head = head; table = flattened rows; area = area }) table after o
    → ◌≡◌ {A = Held} (record {
      answer = l.answer;
      head = unwrap_or l.head head;
      rows = rows_put l.rows.start l.rows.end rows (rows_of most_rows table);
      area = after;
    }) (as_rows o)
unfolding Leaves as_rows
leaves_held l head rows area table after o ts e p =
    let same : rows_of most_rows (flattened rows) ≡ rows = ap (λ (n : ℕ). rows_of n (flattened rows)) (sym e) ∙ rows-flattened ts in
    ap (λ (rs : List Row). record { answer = l.answer; head = unwrap_or l.head head; rows = rs; area = after })
    (ap (λ (rs : List Row). rows_put l.rows.start l.rows.end rs (rows_of most_rows table)) (sym same) ∙ p.3)
    ∙ ap as_rows p.0

pub leaves_bounds :
    (l : Left) (before : Lent) (table area : List ℕ) (o : Outcome) → Leaves l before table area o → (l.rows.start ≤ l.rows.end) × (l.rows.end ≤ most_rows)
unfolding Leaves
leaves_bounds l before table area o p = (p.1, p.2)

-- what a core answers that leaves the record is the outcome
pub answers_held :
    (a : Answer) (head : Head) (rows : List Row) (after : List ℕ) (o : Outcome) → AllTyped rows → length rows ≡ most_rows
    → ◌≡◌ {A = Outcome} (record { answer = a; left = record { head = head; table = flattened rows; area = after } }) o
    → ◌≡◌ {A = Held} (record { answer = a; head = head; rows = rows; area = after }) (as_rows o)
unfolding as_rows
answers_held a head rows after o ts e p =
    let same : rows_of most_rows (flattened rows) ≡ rows = ap (λ (n : ℕ). rows_of n (flattened rows)) (sym e) ∙ rows-flattened ts in
    ap (λ (rs : List Row). record { answer = a; head = head; rows = rs; area = after }) (sym same) ∙ ap as_rows p

-- what a core leaves that leaves the rows is the outcome
pub leaves_rows :
    (l : Left) (head : Head) (rows : List Row) (area after : List ℕ) (o : Outcome) → AllTyped rows → length rows ≡ most_rows
    → Leaves l (record { head = head; table = flattened rows; area = area }) (flattened rows) after o
    → ◌≡◌ {A = Held} (record { answer = l.answer; head = unwrap_or l.head head; rows = rows; area = after }) (as_rows o)
unfolding Leaves as_rows
leaves_rows l head rows area after o ts e p =
    let same : rows_of most_rows (flattened rows) ≡ rows = ap (λ (n : ℕ). rows_of n (flattened rows)) (sym e) ∙ rows-flattened ts in
    ap (λ (rs : List Row). record { answer = l.answer; head = unwrap_or l.head head; rows = rs; area = after }) (sym same) ∙ ap as_rows p.0
