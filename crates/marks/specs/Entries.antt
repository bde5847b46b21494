-- Lists of entries, each of a position in a rack and marks. 01, "Handover bundle": "Positions strictly rise within each list and lie below the rack's size.";
-- "Verdict": "Signers are pairs of position and marks, one byte each, .. positions strictly rising and below n, otherwise 22."; and "for each .. 17, 18".
use Rattle.std.specs.Prelude.{Bool, true, not, cond, ◌&&◌, List, [], ◌∷◌, ◌++◌, ℕ, zero, suc, ◌+◌, ◌*◌, get_or, eqb, ltb}
use Rattle.refusals.specs.{not_attested, signature_not_valid}
use Rattle.refusals.specs.Order.{Test, ◌⇒◌}
use Rattle.marks.specs.{attested, valid, marks_fit}

-- the position of entry i comes after that of the entry before it
unfoldable pub goes_up : (ℕ → ℕ) → ℕ → Bool
goes_up position zero = true
goes_up position (suc i) = ltb (position i) (position (suc i))

-- an entry of a rack of n
unfoldable pub entry_fits : ℕ → (ℕ → ℕ) → (ℕ → ℕ) → ℕ → Bool
entry_fits n position marks i = ltb (position i) n && goes_up position i && marks_fit (marks i)

-- the first c entries, given by their positions and marks
unfoldable pub entries_fit : ℕ → (ℕ → ℕ) → (ℕ → ℕ) → ℕ → Bool
entries_fit n position marks zero = true
entries_fit n position marks (suc c) = entries_fit n position marks c && entry_fits n position marks c

-- "for each .. 17, 18", or 19 where that is the number of a signature that is not valid
unfoldable pub mark_tests : ℕ → ℕ → List Test
mark_tests number m = (not (attested m) ⇒ not_attested) ∷ (not (valid m) ⇒ number) ∷ []

unfoldable pub marks_tests : ℕ → (ℕ → ℕ) → ℕ → List Test
marks_tests number marks zero = []
marks_tests number marks (suc c) = marks_tests number marks c ++ mark_tests number (marks c)

-- the answer of such tests, where 18 is that of a signature that is not valid, with another number for it
abbrev pub answer_with : ℕ → ℕ → ℕ
answer_with number n = cond (eqb n signature_not_valid) number n

-- pairs of position and marks that stand one behind the other in a string
abbrev pub pair_position : List ℕ → ℕ → ℕ
pair_position s i = get_or s (2 * i) 0

abbrev pub pair_marks : List ℕ → ℕ → ℕ
pair_marks s i = get_or s (2 * i + 1) 0
