-- The rows of a roll where they stand in its blocks.
use Rattle.std.specs.Prelude.{◌≡◌, List, ℕ, ◌+◌, ◌-◌, ◌*◌, ◌/◌, ◌≤◌, length}
use Rattle.rows.specs.Sizes.{row_bytes, most_rows}
use Rattle.roll.specs.Blocks.{places, places_bytes, head_bytes, block_bytes, blocks}
use Rattle.roll.specs.Roll.{said_count}

-- a string has the blocks that its count asks, and no more rows than a table
pub record Spread (s : List ℕ) : Type 0 where
  pub few : said_count s ≤ most_rows
  pub long : block_bytes * blocks (said_count s) ≡ length s

-- where row i stands: behind the rows before it, the heads and checks of the blocks before its own, and the head of that
abbrev pub row_at : ℕ → ℕ
row_at i = row_bytes * i + (head_bytes + (block_bytes - places_bytes) * (i / places))
