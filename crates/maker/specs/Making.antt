-- The call. 02, M-106: "Refusals: 2 for the store's size; 6, 22, 15, 16, 17, 18 and 19 as in Activate; 36 when the store's read refuses a needed entry, two
-- highest rows differ, or the digests don't lead to the highest tail; 37 when the roll passes 63 rows, a count 64 or the bundle its length; 1 last, for an
-- area shorter than what goes in it."
use Rattle.std.specs.Prelude.{Bool, not, cond, ◌||◌, List, [], ◌∷◌, ◌++◌, ℕ, length, eqb, leb, ltb}
use Rattle.refusals.specs.{accepted, area_too_short, record_not_sound, rack_broken, list_broken, roll_broken, too_few}
use Rattle.refusals.specs.{signature_not_valid, initialise_not_valid, not_leading, bundle_too_large}
use Rattle.refusals.specs.Order.{Test, ◌⇒◌, first}
use Rattle.octets.specs.Strings.{put}
use Rattle.octets.specs.Layouts.{holds}
use Rattle.rack.specs.Racks.{rack_layout, majority}
use Rattle.marks.specs.Entries.{marks_tests, pair_marks}
use Rattle.rows.specs.Sizes.{most_rows}
use Rattle.rows.specs.Table.{each}
use Rattle.roll.specs.Roll.{roll_layout}
use Rattle.rules.specs.Bundle.{longest_bundle, most_added, old_count, old_marks, old_roll, new_count, new_entries, bundle_fits}
use Rattle.rules.specs.Activate.{rack_size}
use Rattle.store.specs.Area.{area_right}
use Rattle.maker.specs.Rolls.{label_number, row_count, roll_made}
use Rattle.maker.specs.Lists.{needed, all_led, bundle_made}

-- "2 for the store's size; 6, 22, 15, 16, 17, 18 and 19 as in Activate"; the entries are a bundle for a roll of no rows
unfoldable pub entries_tests : List ℕ → List ℕ → List ℕ → List ℕ → List Test
entries_tests previous own e store =
    (not (area_right store) ⇒ record_not_sound)
    ∷ (not (holds rack_layout previous) ⇒ rack_broken)
    ∷ (not (holds rack_layout own) ⇒ rack_broken)
    ∷ (not (bundle_fits (rack_size previous) (rack_size own) 0 e) ⇒ list_broken)
    ∷ (not (each (λ i. holds roll_layout (old_roll e i)) (old_count e)) ⇒ roll_broken)
    ∷ (ltb (old_count e) (majority (rack_size previous)) || ltb (new_count e) (majority (rack_size own)) ⇒ too_few)
    ∷ marks_tests signature_not_valid (old_marks e) (old_count e)
    ++ marks_tests initialise_not_valid (pair_marks (new_entries e)) (new_count e)

-- "a count 64": of row r, for each old entry
unfoldable pub counts_fit : List ℕ → ℕ → Bool
counts_fit e r = each (λ i. leb (needed e (label_number e r) i) most_added) (old_count e)

-- "37 when the roll passes 63 rows, a count 64 or the bundle its length"
unfoldable pub too_large : List ℕ → List ℕ → Bool
too_large e store =
    ltb most_rows (row_count e) || not (each (counts_fit e) (row_count e)) || ltb longest_bundle (length (bundle_made e store))

-- the new roll in blocks
unfoldable pub blocks_made : List ℕ → List ℕ
blocks_made e = roll_layout.written (roll_made e)

unfoldable pub making_tests : List ℕ → List ℕ → List ℕ → List ℕ → List ℕ → List ℕ → List Test
making_tests previous own e store roll bundle =
    entries_tests previous own e store
    ++ (not (all_led e store) ⇒ not_leading)
    ∷ (too_large e store ⇒ bundle_too_large)
    ∷ (ltb (length roll) (length (blocks_made e)) || ltb (length bundle) (length (bundle_made e store)) ⇒ area_too_short)
    ∷ []

-- an answer, the bytes written into each area, and the areas as the call leaves them
pub record Composed : Type 0 where
  pub number : ℕ
  pub roll : ℕ
  pub bundle : ℕ
  pub roll_area : List ℕ
  pub bundle_area : List ℕ

-- the maker, given both racks, the entries, the store's area, and the areas for the roll and for the bundle
unfoldable pub composing : List ℕ → List ℕ → List ℕ → List ℕ → List ℕ → List ℕ → Composed
composing previous own e store roll bundle =
    cond (eqb (first (making_tests previous own e store roll bundle)) accepted)
    (record {
      number = accepted;
      roll = length (blocks_made e);
      bundle = length (bundle_made e store);
      roll_area = put roll 0 (blocks_made e);
      bundle_area = put bundle 0 (bundle_made e store);
    })
    (record { number = first (making_tests previous own e store roll bundle); roll = 0; bundle = 0; roll_area = roll; bundle_area = bundle })
