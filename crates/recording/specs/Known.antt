-- What is known where nothing refuses an append of many, and what it leaves.
use Rattle.std.specs.Prelude.{◌≡◌, true, List, ℕ, ◌≤◌, ◌<◌, length}
use Rattle.octets.specs.Strings.{put}
use Rattle.rows.specs.Sizes.{most_rows, table_bytes, top_height}
use Rattle.rows.specs.Row.{row_holds}
use Rattle.statement.specs.Kinds.{receipt_size}
use Rattle.rules.specs.Outcomes.{Lent}
use Rattle.rules.specs.Rows.{row_number, sought}
use Rattle.rules.specs.AppendMany.{entries, last_height, moved_by_all, last_statement}

-- the ledger is found, and its row may move on by the list, whatever its tail becomes
pub record Recordable (k : Lent) (label list : List ℕ) : Type 0 where
  pub room : receipt_size ≤ length k.area
  pub long : length k.table ≡ table_bytes
  pub place : row_number (sought k label) < most_rows
  pub some : 1 ≤ entries list
  pub below_top : last_height k label list ≤ top_height
  pub last : (tail : List ℕ) → row_holds label tail (last_height k label list) ≡ true

-- the row has moved on, and the receipt is written
pub record Entered (k : Lent) (label list : List ℕ) (table area : List ℕ) : Type 0 where
  pub moves : table ≡ moved_by_all k label list
  pub writes : area ≡ put k.area 0 (last_statement k label list)
  pub long : length (last_statement k label list) ≡ receipt_size
