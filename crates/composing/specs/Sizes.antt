-- How long the lists are, by the table of the new roll's rows.
use Rattle.std.specs.Prelude.{cond, List, ℕ, zero, suc, ◌+◌, ◌-◌, ◌*◌, length, leb}
use Rattle.rows.specs.Row.{label_of, height_of}
use Rattle.rows.specs.Table.{each}
use Rattle.statement.specs.Kinds.{digest_bytes}
use Rattle.rules.specs.Bundle.{longest_bundle, most_added, old_roll}
use Rattle.gathering.specs.Old.{row_of}

-- how many entries row r of the table lies above an old roll's row of its label
unfoldable pub need_of : List ℕ → List ℕ → ℕ → ℕ
need_of roll table r = height_of table r - (row_of roll (label_of table r)).height

-- the bytes of an old roll's first lists
unfoldable pub lists_size : List ℕ → List ℕ → ℕ → ℕ
lists_size roll table zero = 0
lists_size roll table (suc r) = lists_size roll table r + (2 + digest_bytes * need_of roll table r)

-- or more than a bundle has, where a count passes 64
unfoldable pub roll_size : List ℕ → List ℕ → ℕ → ℕ
roll_size roll table count = cond (each (λ r. leb (need_of roll table r) most_added) count) (lists_size roll table count) (longest_bundle + 1)

-- the bytes of the entries and of the lists of the first n old rolls
unfoldable pub whole_size : List ℕ → List ℕ → ℕ → ℕ → ℕ
whole_size e table count zero = length e
whole_size e table count (suc n) = whole_size e table count n + roll_size (old_roll e n) table count
