-- The lists by the table of the new roll's rows, and what writing them counts on.
use Rattle.std.specs.Prelude.{◌≡◌, true, List, [], ◌++◌, ℕ, zero, suc, ◌+◌, ◌<◌, ◌≤◌}
use Rattle.octets.specs.Numbers.{bytes_of}
use Rattle.rows.specs.Sizes.{top_height}
use Rattle.rows.specs.Row.{label_of}
use Rattle.rows.specs.Table.{each}
use Rattle.rules.specs.Bundle.{most_added, old_count, old_roll}
use Rattle.maker.specs.Lists.{answered, listed}
use Rattle.gathering.specs.Old.{row_of}
use Rattle.composing.specs.Sizes.{need_of}

-- the store answers what row r needs of an old roll, and that is no more than a list has
pub record RowFed (roll store table : List ℕ) (r : ℕ) : Type 0 where
  pub few : need_of roll table r ≤ most_added
  pub low : (row_of roll (label_of table r)).height + need_of roll table r ≤ top_height
  pub answers : each (λ d. answered store (label_of table r) ((row_of roll (label_of table r)).height + suc d)) (need_of roll table r) ≡ true

abbrev pub Fed : List ℕ → List ℕ → List ℕ → ℕ → Type 0
Fed roll store table count = (r : ℕ) → r < count → RowFed roll store table r

-- each old roll
abbrev pub AllFed : List ℕ → List ℕ → List ℕ → ℕ → Type 0
AllFed e store table count = (i : ℕ) → i < old_count e → Fed (old_roll e i) store table count

-- an old roll's lists for the first rows of the table
unfoldable pub lists_by : List ℕ → List ℕ → List ℕ → ℕ → List ℕ
lists_by roll store table zero = []
lists_by roll store table (suc r) =
    lists_by roll store table r
    ++ (bytes_of 2 (need_of roll table r) ++ listed store (label_of table r) (row_of roll (label_of table r)).height (need_of roll table r))

-- the lists of the first n old rolls
unfoldable pub lists_of : List ℕ → List ℕ → List ℕ → ℕ → ℕ → List ℕ
lists_of e store table count zero = []
lists_of e store table count (suc n) = lists_of e store table count n ++ lists_by (old_roll e n) store table count
