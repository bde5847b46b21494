-- The entries of a bundle's two lists, by list and number as Bytes to check takes them. 01, "Handover bundle": "a old entries (position in the previous rack,
-- marks, block count 1 to 7, the roll blocks); one byte b; b new entries (position in the own rack, marks)".
use Rattle.std.specs.Prelude.{Bool, cond, ◌&&◌, List, ℕ, ◌+◌, ◌*◌, length, eqb, leb, ltb}
use Rattle.rules.specs.Bundle.{longest_bundle, byte, old_at, new_at}
use Rattle.rules.specs.Check.{old_list, entries_of}

-- where entry i of a list begins
unfoldable pub entry_at : List ℕ → ℕ → ℕ → ℕ
entry_at s list i = cond (eqb list old_list) (old_at s i) (new_at s + (1 + 2 * i))

-- its parts: "position .., marks"
abbrev pub position_of : List ℕ → ℕ → ℕ → ℕ
position_of s list i = byte s (entry_at s list i)

abbrev pub marks_place : List ℕ → ℕ → ℕ → ℕ
marks_place s list i = entry_at s list i + 1

-- 01, "Bytes to check": "22 if that list has no such entry"; a string over "65,536 bytes" has none, and an entry ends within its string
unfoldable pub has_entry : List ℕ → ℕ → ℕ → Bool
has_entry s list i = leb (length s) longest_bundle && ltb i (entries_of s list) && leb (entry_at s list (i + 1)) (length s)
