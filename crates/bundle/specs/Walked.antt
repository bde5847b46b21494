-- What a walk over a string asks in turn: each part keeps the rules, and it ends within the string. Together they are asked of a bundle, since its places
-- only grow.
use Rattle.std.specs.Prelude.{Bool, ◌&&◌, List, ℕ, ◌+◌, length, eqb, leb, ltb}
use Rattle.marks.specs.{marks_fit}
use Rattle.marks.specs.Entries.{entries_fit, pair_position, pair_marks}
use Rattle.rows.specs.Table.{each}
use Rattle.rules.specs.Bundle.{most_blocks, most_added, byte, old_count, old_position, old_marks, blocks_fit}
use Rattle.rules.specs.Bundle.{new_at, new_count, new_entries, two_byte, list_at, added_fits}

-- an old entry at a place, for a rack of n and the lowest position that comes after the entries before it
abbrev pub old_asked : List ℕ → ℕ → ℕ → ℕ → Bool
old_asked s n low at =
    ltb (at + 2) (length s)
    && (ltb (byte s at) n && leb low (byte s at) && marks_fit (byte s (at + 1)))
    && (leb 1 (byte s (at + 2)) && leb (byte s (at + 2)) most_blocks)

-- a list of entry digests at a place
abbrev pub list_asked : List ℕ → ℕ → Bool
list_asked s at = ltb (at + 1) (length s) && leb (two_byte s at) most_added

-- the old entries, the new ones, and so many lists
abbrev pub olds : ℕ → List ℕ → Bool
olds n s = entries_fit n (old_position s) (old_marks s) (old_count s) && each (blocks_fit s) (old_count s)

abbrev pub news : ℕ → List ℕ → Bool
news m s = entries_fit m (pair_position (new_entries s)) (pair_marks (new_entries s)) (new_count s)

abbrev pub olds_end : ℕ → List ℕ → Bool
olds_end n s = olds n s && ltb (new_at s) (length s)

abbrev pub news_end : ℕ → List ℕ → Bool
news_end m s = leb (list_at s 0) (length s) && news m s

abbrev pub lists_end : ℕ → List ℕ → Bool
lists_end count s = each (added_fits s) count && eqb (list_at s count) (length s)
