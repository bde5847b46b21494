-- 01, "Wake (own key): the head gets status 0, the key, and zeros elsewhere; the table becomes zero. 2 here means only that the table hasn't 63 rows."
use Rattle.std.specs.Prelude.{not, List, [], ◌∷◌, ℕ, length, replicate, eqb}
use Rattle.refusals.specs.{record_not_sound}
use Rattle.refusals.specs.Order.{◌⇒◌, first}
use Rattle.rows.specs.Sizes.{table_bytes}
use Rattle.rules.specs.declared.Head.{Head}
use Rattle.rules.specs.Record.{blank}
use Rattle.rules.specs.Outcomes.{Lent, Outcome, given, unless}

abbrev pub zeros : List ℕ
zeros = replicate 32 0

abbrev pub woken : List ℕ → Head
woken key = record { status = blank; count = 0; key = key; identity = zeros; own = zeros; previous = zeros; next = zeros }

unfoldable pub waking : Lent → List ℕ → Outcome
waking k key =
    unless (first ((not (eqb (length k.table) table_bytes) ⇒ record_not_sound) ∷ [])) 0 k
    (given [] (woken key) (replicate (length k.table) 0) k.area)
