-- 01, "Handover bundle": "The roll is derived exactly if, for each old roll: its labels are those of this keeper's roll, no more and no fewer; and for
-- each row, its height plus the count equals ours and appending the listed digests to its tail gives our tail. Also, for each row, some old roll that has
-- it adds none." In the place of "no fewer" stands 02, M-101: "A row missing from an old roll shall count as height 0 with the zero tail, provided that
-- another old roll in the bundle has it; the rest of the derivation stays, so some roll that does have the row must add none."
use Rattle.std.specs.Prelude.{Bool, false, not, ◌&&◌, ◌||◌, List, ℕ, zero, suc, ◌+◌, ◌*◌, take, drop, eqb}
use Rattle.octets.specs.Strings.{same}
use Rattle.std.specs.Prelude.{Result, Ok, Err}
use Rattle.rows.specs.Row.{label_of, tail_of, height_of}
use Rattle.rows.specs.Table.{each}
use Rattle.rows.specs.Search.{find}
use Rattle.rows.specs.Digests.{appended}
use Rattle.roll.specs.Roll.{Roll, roll_layout}
use Rattle.statement.specs.Kinds.{digest_bytes}
use Rattle.statement.specs.Cut.{no_digest}
use Rattle.rules.specs.Rows.{is_absent}
use Rattle.rules.specs.Bundle.{old_count, old_roll, added, digests, list_of}

-- a test holds of some number below n
unfoldable pub some : (ℕ → Bool) → ℕ → Bool
some test zero = false
some test (suc n) = some test n || test n

-- the row of a roll that has the label of row r of another
abbrev pub row_in : Roll → Roll → ℕ → Result ℕ ℕ
row_in old ours r = find old.count old.rows (label_of ours.rows r)

-- "no more": each label of the old roll is one of ours
unfoldable pub no_more : Roll → Roll → Bool
no_more ours old = each (λ q. not (is_absent (row_in ours old q))) old.count

-- "appending the listed digests to its tail": a tail after the first n of the digests in a string
unfoldable pub grown : List ℕ → List ℕ → ℕ → List ℕ
grown tail s zero = tail
grown tail s (suc n) = appended (grown tail s n) (take digest_bytes (drop (digest_bytes * n) s))

-- "A row missing from an old roll shall count as height 0 with the zero tail"
abbrev pub counted_height : Roll → Result ℕ ℕ → ℕ
counted_height old (Ok q) = height_of old.rows q
counted_height old (Err n) = 0

abbrev pub counted_tail : Roll → Result ℕ ℕ → List ℕ
counted_tail old (Ok q) = tail_of old.rows q
counted_tail old (Err n) = no_digest

-- "its height plus the count equals ours and appending the listed digests to its tail gives our tail": for row r of ours, with n digests in a string
unfoldable pub row_derived : Roll → Roll → ℕ → List ℕ → ℕ → Bool
row_derived ours old r s n =
    eqb (counted_height old (row_in old ours r) + n) (height_of ours.rows r)
    && same (grown (counted_tail old (row_in old ours r)) s n) (tail_of ours.rows r)

-- the roll of old entry i of a bundle, taken apart
abbrev pub roll_of : List ℕ → ℕ → Roll
roll_of s i = roll_layout.cut (old_roll s i)

-- "for each old roll"
unfoldable pub roll_derived : Roll → List ℕ → ℕ → Bool
roll_derived ours s i =
    no_more ours (roll_of s i)
    && each (λ r. row_derived ours (roll_of s i) r (digests s (list_of ours.count i r)) (added s (list_of ours.count i r))) ours.count

-- an old entry's roll has row r of ours
abbrev pub has_row : Roll → List ℕ → ℕ → ℕ → Bool
has_row ours s r i = not (is_absent (row_in (roll_of s i) ours r))

-- "provided that another old roll in the bundle has it": a row that the roll of old entry i lacks
unfoldable pub had_elsewhere : Roll → List ℕ → ℕ → Bool
had_elsewhere ours s i = each (λ r. has_row ours s r i || some (λ j. not (eqb j i) && has_row ours s r j) (old_count s)) ours.count

-- "for each row, some old roll that has it adds none"
unfoldable pub kept_by_some : Roll → List ℕ → ℕ → Bool
kept_by_some ours s r = some (λ i. has_row ours s r i && eqb (added s (list_of ours.count i r)) 0) (old_count s)

unfoldable pub derived : Roll → List ℕ → Bool
derived ours s =
    each (roll_derived ours s) (old_count s) && each (had_elsewhere ours s) (old_count s) && each (kept_by_some ours s) ours.count
