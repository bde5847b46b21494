-- Worked examples for the definitions, computed by the checker: strings that are bundles, and strings that are not. Assumes nothing.
use mathlib.Core.Path.{◌≡◌, refl}
use mathlib.Core.Bool.{true, false}
use mathlib.Core.List.{List, [], ◌∷◌, ◌++◌}
use Prim.Native.Nat.{ℕ}
use lib.ListN.{replicate}
use Rattle.octets.specs.Numbers.{number_of}
use Rattle.marks.specs.Entries.{goes_up, entry_fits, entries_fit}
use Rattle.rows.specs.Table.{each}
use Rattle.rules.specs.Bundle.{old_at, new_at, new_entries, two_byte, list_at, blocks_fit, added_fits, bundle_fits}

-- position 2 of a previous rack with one block, position 0 of the own rack, and for the one row a count of n digests with so many bytes after it
abbrev pub sample : ℕ → ℕ → List ℕ
sample n bytes = 1 ∷ 2 ∷ 3 ∷ 1 ∷ replicate 512 7 ++ (1 ∷ 0 ∷ 3 ∷ 0 ∷ n ∷ replicate bytes 9)

-- no entries at all; a list of one digest
pub bundles : (bundle_fits 1 1 63 (0 ∷ 0 ∷ []) ≡ true) × (bundle_fits 3 1 1 (sample 1 32) ≡ true)
unfolding bundle_fits old_at new_at new_entries two_byte list_at blocks_fit added_fits each goes_up entry_fits entries_fit number_of
bundles = (refl, refl)

-- nothing; a byte after the last list; a digest too few; a list too few; a position after the previous rack
pub none :
    (bundle_fits 1 1 63 [] ≡ false) × (bundle_fits 3 1 1 (sample 1 33) ≡ false) × (bundle_fits 3 1 1 (sample 2 32) ≡ false)
    × (bundle_fits 3 1 2 (sample 1 32) ≡ false) × (bundle_fits 2 1 1 (sample 1 32) ≡ false)
unfolding bundle_fits old_at new_at new_entries two_byte list_at blocks_fit added_fits each goes_up entry_fits entries_fit number_of
none = (refl, refl, refl, refl, refl)
