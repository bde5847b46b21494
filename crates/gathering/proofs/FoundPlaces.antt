-- A row that is found in a roll has a place in its blocks. Assumes nothing.
use mathlib.Core.Path.{◌≡◌}
use mathlib.Core.List.{List}
use Prim.Native.Nat.{ℕ, ◌*◌, ◌<◌}
use native.Mathlib.Omega.{arith}
use Rattle.rows.specs.Search.{held, find}
use Rattle.std.specs.Prelude.{Ok}
use Rattle.rows.proofs.Searches.{first_is}
use Rattle.roll.specs.Blocks.{places, blocks}
use Rattle.roll.specs.Roll.{said_count, roll_layout}
use Rattle.roll.specs.Places.{Spread}
use Rattle.roll.proofs.Rolls.{cut_table}
use Rattle.roll.proofs.Spreads.{all_held, has_place}

pub found_place :
    (s : List ℕ) → Spread s → (label : List ℕ) (i : ℕ) → find (roll_layout.cut s).count (roll_layout.cut s).rows label ≡ Ok i
    → i < places * blocks (said_count s)
unfolding find roll_layout
found_place s h label i e =
    has_place s h i (omega (arith, all_held s h, (first_is (cut_table s) label (held (said_count s) (cut_table s)) i e).0))
