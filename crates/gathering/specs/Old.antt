-- The entries that the maker is given, and a label's row in one old roll.
use Rattle.std.specs.Prelude.{◌≡◌, Bool, true, not, List, ℕ, ◌<◌, ◌≤◌, length}
use Rattle.octets.specs.Layouts.{holds}
use Rattle.octets.specs.Strings.{before}
use Rattle.rows.specs.Row.{label_of}
use Rattle.rows.specs.Table.{each}
use Rattle.rows.specs.Search.{find}
use Rattle.roll.specs.Roll.{roll_layout}
use Rattle.rules.specs.Bundle.{longest_bundle, old_count, old_roll, new_at}
use Rattle.rules.specs.Derivation.{counted_height, counted_tail}
use Rattle.maker.specs.declared.Highest.{Highest}

-- the old entries lie within the string, and each has a roll
pub record Given (e : List ℕ) : Type 0 where
  pub within : new_at e < length e
  pub short : length e ≤ longest_bundle
  pub rolls : each (λ i. holds roll_layout (old_roll e i)) (old_count e) ≡ true

-- height and tail of a label in a roll's blocks
unfoldable pub row_of : List ℕ → List ℕ → Highest
row_of roll label =
    record {
      height = counted_height (roll_layout.cut roll) (find (roll_layout.cut roll).count (roll_layout.cut roll).rows label);
      tail = counted_tail (roll_layout.cut roll) (find (roll_layout.cut roll).count (roll_layout.cut roll).rows label);
    }

-- row q does not come after a label
unfoldable pub up_to : List ℕ → List ℕ → ℕ → Bool
up_to rows last q = not (before last (label_of rows q))
