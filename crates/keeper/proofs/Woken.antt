-- The rule of Wake on a table of 63 rows, and of another length. Assumes nothing.
use mathlib.Core.Path.{◌≡◌, sym, ap, ◌∙◌}
use mathlib.Core.Bool.{true, not}
use mathlib.Core.List.{List, [], ◌∷◌}
use Prim.Native.Nat.{ℕ, ◌*◌}
use borrow.Author.Tests.{eq-eqb, ne_eqb}
use lib.ListN.{length, replicate}
use lib.Dec.{eqb}
use Rattle.octets.specs.Strings.{put}
use Rattle.refusals.specs.{record_not_sound}
use Rattle.refusals.specs.Order.{◌⇒◌, first}
use Rattle.rows.specs.Sizes.{most_rows, row_bytes, table_bytes}
use Rattle.rules.specs.declared.Head.{Head}
use Rattle.rules.specs.Outcomes.{accepting, refusing, refused, given, unless}
use Rattle.rules.specs.Wake.{waking, woken}
use Rattle.table.specs.declared.Row.{Row}
use Rattle.table.specs.Flat.{flattened, rows_of, blank_rows}
use Rattle.table.specs.Held.{Held, as_rows}
use Rattle.table.proofs.RowTrips.{AllTyped, flattened-length}
use Rattle.table.proofs.HeldRows.{other_table}

-- the rule of Wake on a table of another length
pub waking_other :
    (head : Head) (rows : List Row) (key area : List ℕ) → AllTyped rows → (length rows ≡ most_rows → ⊥)
    → waking (record { head = head; table = flattened rows; area = area }) key
    ≡ record { answer = refusing record_not_sound 0; left = record { head = head; table = flattened rows; area = area } }
unfolding first refused unless waking
waking_other head rows key area ts n = rw (ne_eqb (length (flattened rows)) table_bytes (other_table rows ts n))

-- and on one of 63
woken-rows : (head : Head) (table : List ℕ) (key : List ℕ) (n : ℕ) → eqb n table_bytes ≡ true
    → ◌≡◌ {A = Held} (record { answer = accepting 0; head = woken key; rows = rows_of most_rows (replicate n 0); area = [] })
    (as_rows (unless (first ((not (eqb n table_bytes) ⇒ record_not_sound) ∷ [])) 0 (record { head = head; table = table; area = [] }) (given [] (woken key)
    (replicate n 0) [])))
unfolding first unless as_rows given put
woken-rows head table key n t = rw t

pub waking_63 :
    (head : Head) (rows : List Row) (key : List ℕ) → AllTyped rows → length rows ≡ most_rows
    → ◌≡◌ {A = Held} (record { answer = accepting 0; head = woken key; rows = blank_rows; area = [] }) (as_rows (waking (record {
      head = head;
      table =
          flattened rows;
      area = [];
    }) key))
unfolding waking blank_rows
waking_63 head rows key ts e =
    let long : length (flattened rows) ≡ table_bytes = flattened-length ts ∙ ap (λ (n : ℕ). row_bytes * n) e in
    ap {B = Held} (λ (n : ℕ). record { answer = accepting 0; head = woken key; rows = rows_of most_rows (replicate n 0); area = [] }) (sym long)
    ∙ woken-rows head (flattened rows) key (length (flattened rows)) (eq-eqb (length (flattened rows)) table_bytes long)
