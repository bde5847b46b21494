-- An old roll and this keeper's, both in label order, looked through together: each row of ours is held against the one row of the old roll that is next.
use Rattle.std.specs.Prelude.{Bool, cond, ◌&&◌, List, ℕ, zero, suc, ◌+◌, eqb, ltb}
use Rattle.octets.specs.Strings.{same}
use Rattle.rows.specs.Row.{label_of, tail_of, height_of}
use Rattle.roll.specs.Roll.{Roll}
use Rattle.statement.specs.Cut.{no_digest}
use Rattle.rules.specs.Derivation.{grown}

-- a roll has a row q, and that has the label
unfoldable pub is_next : Roll → ℕ → List ℕ → Bool
is_next old q label = ltb q old.count && same (label_of old.rows q) label

-- the row that is next where one has been looked at: the one behind it where it has the label, otherwise the same
unfoldable pub after : ℕ → Bool → ℕ
after q there = cond there (suc q) q

-- how many rows of the old roll are behind where the first r of ours are
unfoldable pub passed : Roll → List ℕ → ℕ → ℕ
passed old rows zero = 0
passed old rows (suc r) = after (passed old rows r) (is_next old (passed old rows r) (label_of rows r))

-- the next row of the old roll has the label of row r of ours
abbrev pub met : Roll → List ℕ → ℕ → Bool
met old rows r = is_next old (passed old rows r) (label_of rows r)

-- the n digests of a string lead to row r of ours: from row q of the old roll where that has its label, otherwise from nothing
unfoldable pub derived_from : Roll → ℕ → Bool → List ℕ → ℕ → List ℕ → ℕ → Bool
derived_from old q there rows r s n =
    eqb (cond there (height_of old.rows q) 0 + n) (height_of rows r)
    && same (grown (cond there (tail_of old.rows q) no_digest) s n) (tail_of rows r)
