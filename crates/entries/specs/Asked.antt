-- What Activate and the maker both ask of a bundle's entries. 01, "Activate": "15, 16, then for each old entry 17, 18, for each new entry 17, 19".
use Rattle.std.specs.Prelude.{Bool, ◌||◌, List, ◌∷◌, ◌++◌, ℕ, ltb}
use Rattle.refusals.specs.{too_few, signature_not_valid, initialise_not_valid}
use Rattle.refusals.specs.Order.{Test, ◌⇒◌}
use Rattle.octets.specs.Layouts.{holds}
use Rattle.rack.specs.Racks.{majority}
use Rattle.marks.specs.Entries.{marks_tests, pair_marks}
use Rattle.roll.specs.Roll.{roll_layout}
use Rattle.rules.specs.Bundle.{old_count, old_marks, old_roll, new_count, new_entries}
use Rattle.rules.specs.Activate.{rack_size}

-- the blocks of old entry i are a roll
abbrev pub roll_held : List ℕ → ℕ → Bool
roll_held s i = holds roll_layout (old_roll s i)

-- "16": a list has fewer entries than a majority of its rack
abbrev pub few : List ℕ → List ℕ → List ℕ → Bool
few previous own s = ltb (old_count s) (majority (rack_size previous)) || ltb (new_count s) (majority (rack_size own))

-- "16, then for each old entry 17, 18, for each new entry 17, 19"
unfoldable pub attended_tests : List ℕ → List ℕ → List ℕ → List Test
attended_tests previous own s =
    (few previous own s ⇒ too_few)
    ∷ marks_tests signature_not_valid (old_marks s) (old_count s)
    ++ marks_tests initialise_not_valid (pair_marks (new_entries s)) (new_count s)
