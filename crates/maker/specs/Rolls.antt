-- The new roll: label by label in order, the highest old row. 02, M-106: "Given both racks, the finalised rolls with their marks, the new entries and the
-- cabinet store, the maker writes the new roll and the bundle. All given entries go in." The entries are given as the front of a bundle.
use Rattle.std.specs.Prelude.{Bool, cond, ◌&&◌, ◌||◌, List, [], ◌++◌, ℕ, zero, suc, ◌+◌, ltb}
use Rattle.octets.specs.Numbers.{bytes_of}
use Rattle.octets.specs.Strings.{all_zero, before}
use Rattle.rows.specs.Sizes.{height_bytes, most_rows, table_bytes}
use Rattle.rows.specs.Row.{label_of}
use Rattle.rows.specs.Search.{find}
use Rattle.roll.specs.Roll.{Roll, filled}
use Rattle.statement.specs.Cut.{no_label, no_digest}
use Rattle.rules.specs.Bundle.{old_count}
use Rattle.rules.specs.Derivation.{counted_height, counted_tail, roll_of}
use Rattle.store.specs.Area.{first_place}
use Rattle.maker.specs.declared.Highest.{Highest}

-- the row of a label in the roll of old entry i. M-101: "A row missing from an old roll shall count as height 0 with the zero tail"
unfoldable pub old_height : List ℕ → List ℕ → ℕ → ℕ
old_height e label i = counted_height (roll_of e i) (find (roll_of e i).count (roll_of e i).rows label)

unfoldable pub old_tail : List ℕ → List ℕ → ℕ → List ℕ
old_tail e label i = counted_tail (roll_of e i) (find (roll_of e i).count (roll_of e i).rows label)

-- the first of the highest rows of a label in the first n old rolls
unfoldable pub highest_of : List ℕ → List ℕ → ℕ → Highest
highest_of e label zero = record { height = 0; tail = no_digest }
highest_of e label (suc n) =
    cond (ltb (highest_of e label n).height (old_height e label n)) (record { height = old_height e label n; tail = old_tail e label n })
    (highest_of e label n)

unfoldable pub highest : List ℕ → List ℕ → Highest
highest e label = highest_of e label (old_count e)

-- the label that comes first after `last`: one found so far, where zeros are none, or another
unfoldable pub nearest : List ℕ → List ℕ → List ℕ → List ℕ
nearest last best label = cond (before last label && (all_zero best || before label best)) label best

-- or one of the first q labels of a roll
unfoldable pub nearest_in : Roll → List ℕ → List ℕ → ℕ → List ℕ
nearest_in old last best zero = best
nearest_in old last best (suc q) = nearest last (nearest_in old last best q) (label_of old.rows q)

-- the first label after `last` in the first n old rolls
unfoldable pub next_of : List ℕ → List ℕ → ℕ → List ℕ
next_of e last zero = no_label
next_of e last (suc n) = nearest_in (roll_of e n) last (next_of e last n) (roll_of e n).count

-- "label by label in order": the label of row r of the new roll, and zeros behind the last
unfoldable pub label_number : List ℕ → ℕ → List ℕ
label_number e zero = next_of e no_label (old_count e)
label_number e (suc r) = next_of e (label_number e r) (old_count e)

-- how many labels there are; of more than a roll has rows, one more than that
unfoldable pub row_count : List ℕ → ℕ
row_count e = first_place (λ r. all_zero (label_number e r)) (most_rows + 1)

-- "the highest old row"
unfoldable pub row_made : List ℕ → List ℕ → List ℕ
row_made e label = label ++ (highest e label).tail ++ bytes_of height_bytes (highest e label).height

unfoldable pub rows_made : List ℕ → ℕ → List ℕ
rows_made e zero = []
rows_made e (suc r) = rows_made e r ++ row_made e (label_number e r)

-- the new roll
unfoldable pub roll_made : List ℕ → Roll
roll_made e = record { count = row_count e; rows = filled table_bytes (rows_made e (row_count e)) }
