-- What is known where a ledger is found.
use Rattle.std.specs.Prelude.{◌≡◌, true, List, ℕ, ◌≤◌, ◌<◌, length}
use Rattle.rows.specs.Sizes.{most_rows, table_bytes}
use Rattle.rows.specs.Row.{row_holds}
use Rattle.rules.specs.Outcomes.{Lent}
use Rattle.rules.specs.Rows.{row_number, sought, present_tail, present_height}

-- a ledger is found, with room for so many bytes
pub record Findable (size : ℕ) (k : Lent) (label : List ℕ) : Type 0 where
  pub room : size ≤ length k.area
  pub long : length k.table ≡ table_bytes
  pub place : row_number (sought k label) < most_rows
  pub holds : row_holds label (present_tail k label) (present_height k label) ≡ true
