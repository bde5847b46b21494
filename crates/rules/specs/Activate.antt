-- 01, "Activate (previous rack, own rack, bundle): 2, 5, 6 (previous, then own), 21, 22, 15, 16, then for each old entry 17, 18, for each new entry 17,
-- 19, then 20. Status becomes active; nothing else changes."
use Rattle.std.specs.Prelude.{Bool, not, ◌&&◌, ◌||◌, List, [], ◌∷◌, ◌++◌, ℕ, ltb}
use Rattle.refusals.specs.{not_prepared, rack_broken, digest_differs, list_broken, roll_broken, too_few}
use Rattle.refusals.specs.{signature_not_valid, initialise_not_valid, not_derived}
use Rattle.refusals.specs.Order.{Test, ◌⇒◌, first}
use Rattle.octets.specs.Strings.{same}
use Rattle.octets.specs.Layouts.{holds}
use Rattle.rack.specs.Racks.{rack_layout, rack_cut, rack_digest, majority}
use Rattle.marks.specs.Entries.{marks_tests, pair_marks}
use Rattle.rows.specs.Table.{each}
use Rattle.roll.specs.Roll.{Roll, roll_layout}
use Rattle.rules.specs.declared.Head.{Head}
use Rattle.rules.specs.Record.{prepared, active}
use Rattle.rules.specs.Outcomes.{Lent, Outcome, given, unless, readiness}
use Rattle.rules.specs.Bundle.{old_count, old_marks, old_roll, new_count, new_entries, bundle_fits}
use Rattle.rules.specs.Derivation.{derived}

-- the size that a rack says it has
abbrev pub rack_size : List ℕ → ℕ
rack_size rack = (rack_cut rack).count

-- the keeper's roll
abbrev pub own_roll : Lent → Roll
own_roll k = record { count = k.head.count; rows = k.table }

-- "rack digest differs from the record's"
unfoldable pub racks_differ : Head → List ℕ → List ℕ → Bool
racks_differ h previous own = not (same (rack_digest previous) h.previous && same (rack_digest own) h.own)

-- "5, 6 (previous, then own), 21, 22, 15" and what comes before them, into an area of so many bytes: what Activate and Bytes to check both ask
unfoldable pub bundle_tests : ℕ → Lent → List ℕ → List ℕ → List ℕ → List Test
bundle_tests size k previous own s =
    readiness size prepared not_prepared k
    ++ (not (holds rack_layout previous) ⇒ rack_broken)
    ∷ (not (holds rack_layout own) ⇒ rack_broken)
    ∷ (racks_differ k.head previous own ⇒ digest_differs)
    ∷ (not (bundle_fits (rack_size previous) (rack_size own) k.head.count s) ⇒ list_broken)
    ∷ (not (each (λ i. holds roll_layout (old_roll s i)) (old_count s)) ⇒ roll_broken)
    ∷ []

-- "16, then for each old entry 17, 18, for each new entry 17, 19, then 20"
unfoldable pub handover_tests : Lent → List ℕ → List ℕ → List ℕ → List Test
handover_tests k previous own s =
    (ltb (old_count s) (majority (rack_size previous)) || ltb (new_count s) (majority (rack_size own)) ⇒ too_few)
    ∷ marks_tests signature_not_valid (old_marks s) (old_count s)
    ++ marks_tests initialise_not_valid (pair_marks (new_entries s)) (new_count s)
    ++ (not (derived (own_roll k) s) ⇒ not_derived)
    ∷ []

abbrev pub acting : Head → Head
acting h =
    record { status = active; count = h.count; key = h.key; identity = h.identity; own = h.own; previous = h.previous; next = h.next }

unfoldable pub activating : Lent → List ℕ → List ℕ → List ℕ → Outcome
activating k previous own s =
    unless (first (bundle_tests 0 k previous own s ++ handover_tests k previous own s)) 0 k
    (given [] (acting k.head) k.table k.area)
