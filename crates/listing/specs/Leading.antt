-- A row that the store leads on to the highest, and a label that a roll has.
use Rattle.std.specs.Prelude.{Bool, not, ◌&&◌, List, ℕ, suc, ◌+◌, ◌-◌, eqb}
use Rattle.octets.specs.Strings.{same}
use Rattle.rows.specs.Table.{each}
use Rattle.rows.specs.Search.{find}
use Rattle.roll.specs.Roll.{roll_layout}
use Rattle.cabinet.specs.Block.{label_in, height_in}
use Rattle.store.specs.Area.{block_at}
use Rattle.rules.specs.Rows.{is_absent}
use Rattle.rules.specs.Derivation.{grown}
use Rattle.maker.specs.declared.Highest.{Highest}
use Rattle.maker.specs.Lists.{answered, listed}

-- `leads` of a row and the highest
unfoldable pub leads_on : List ℕ → List ℕ → Highest → Highest → Bool
leads_on store label row top =
    each (λ d. answered store label (row.height + suc d)) (top.height - row.height)
    && same (grown row.tail (listed store label row.height (top.height - row.height)) (top.height - row.height)) top.tail

-- block i has the label and the height
unfoldable pub has_both : List ℕ → List ℕ → ℕ → ℕ → Bool
has_both store label height i = eqb (height_in (block_at store i)) height && same (label_in (block_at store i)) label

-- a roll's blocks have a row of the label
unfoldable pub has_label : List ℕ → List ℕ → Bool
has_label roll label = not (is_absent (find (roll_layout.cut roll).count (roll_layout.cut roll).rows label))
