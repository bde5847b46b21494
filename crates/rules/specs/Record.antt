-- A keeper's record. 01, "Keeper record".
use Rattle.std.specs.Prelude.{Bool, true, cond, ◌&&◌, List, ℕ, eqb, leb}
use Rattle.rows.specs.Table.{rows_fit}
use Rattle.rules.specs.declared.Head.{Head}

-- "status (0 blank, 1 prepared, 2 active, 3 finalised)"
abbrev pub blank : ℕ
blank = 0

abbrev pub prepared : ℕ
prepared = 1

abbrev pub active : ℕ
active = 2

abbrev pub finalised : ℕ
finalised = 3

-- "The record is sound when the table has 63 rows, status is at most 3, count is at most 63 (0 when blank), the first rows form a roll as above and the
-- rest are zero."
unfoldable pub sound : Head → List ℕ → Bool
sound h table =
    leb h.status finalised && cond (eqb h.status blank) (eqb h.count 0) true && rows_fit h.count table
