-- The lists of digests. 02, M-106: "It may add only the digests that the store's read answers, each at its own height, above the old row and up to the
-- highest."
use Rattle.std.specs.Prelude.{Bool, ◌&&◌, List, [], ◌++◌, ℕ, zero, suc, ◌+◌, ◌-◌, replicate, eqb}
use Rattle.refusals.specs.{accepted}
use Rattle.octets.specs.Numbers.{bytes_of}
use Rattle.octets.specs.Strings.{same}
use Rattle.rows.specs.Row.{label_of}
use Rattle.rows.specs.Table.{each}
use Rattle.checks.specs.Check.{block_bytes}
use Rattle.cabinet.specs.Block.{digest_in}
use Rattle.store.specs.Read.{reading}
use Rattle.rules.specs.Bundle.{old_count}
use Rattle.rules.specs.Derivation.{grown, roll_of}
use Rattle.maker.specs.Rolls.{old_height, old_tail, highest, label_number, row_count}

-- an area for a block of the store
unfoldable pub room : List ℕ
room = replicate block_bytes 0

-- whether the store's read answers for a label and a height, and with which digest
unfoldable pub answered : List ℕ → List ℕ → ℕ → Bool
answered store label height = eqb (reading store label height room).number accepted

unfoldable pub entry_digest : List ℕ → List ℕ → ℕ → List ℕ
entry_digest store label height = digest_in (reading store label height room).output

-- how many entries lie above an old row, up to the highest
unfoldable pub needed : List ℕ → List ℕ → ℕ → ℕ
needed e label i = (highest e label).height - old_height e label i

-- the digests of the n heights above one
unfoldable pub listed : List ℕ → List ℕ → ℕ → ℕ → List ℕ
listed store label height zero = []
listed store label height (suc n) = listed store label height n ++ entry_digest store label (height + suc n)

-- "the store's read refuses a needed entry, two highest rows differ, or the digests don't lead to the highest tail": none of this, for a label and old entry i
unfoldable pub leads : List ℕ → List ℕ → List ℕ → ℕ → Bool
leads e store label i =
    each (λ d. answered store label (old_height e label i + suc d)) (needed e label i)
    && same (grown (old_tail e label i) (listed store label (old_height e label i) (needed e label i)) (needed e label i)) (highest e label).tail

-- for each old entry; for each row of an old roll; for each old roll
unfoldable pub led : List ℕ → List ℕ → List ℕ → Bool
led e store label = each (leads e store label) (old_count e)

unfoldable pub roll_led : List ℕ → List ℕ → ℕ → Bool
roll_led e store i = each (λ q. led e store (label_of (roll_of e i).rows q)) (roll_of e i).count

unfoldable pub all_led : List ℕ → List ℕ → Bool
all_led e store = each (roll_led e store) (old_count e)

-- 01, "Handover bundle": "a two-byte count of 0 to 64 and that many entry digests", of old entry i for a label
unfoldable pub list_made : List ℕ → List ℕ → ℕ → List ℕ → List ℕ
list_made e store i label = bytes_of 2 (needed e label i) ++ listed store label (old_height e label i) (needed e label i)

-- "for each row of this keeper's roll in order", the first n
unfoldable pub lists_for : List ℕ → List ℕ → ℕ → ℕ → List ℕ
lists_for e store i zero = []
lists_for e store i (suc n) = lists_for e store i n ++ list_made e store i (label_number e n)

-- "for each old entry", the first n
unfoldable pub lists_made : List ℕ → List ℕ → ℕ → List ℕ
lists_made e store zero = []
lists_made e store (suc n) = lists_made e store n ++ lists_for e store n (row_count e)

-- "All given entries go in."
unfoldable pub bundle_made : List ℕ → List ℕ → List ℕ
bundle_made e store = e ++ lists_made e store (old_count e)
