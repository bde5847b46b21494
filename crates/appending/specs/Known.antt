-- What is known where nothing refuses an append, and what the append leaves.
use Rattle.std.specs.Prelude.{◌≡◌, true, List, ℕ, ◌<◌, length}
use Rattle.octets.specs.Strings.{put}
use Rattle.rows.specs.Sizes.{top_height}
use Rattle.rows.specs.Row.{row_holds}
use Rattle.statement.specs.Kinds.{receipt_size}
use Rattle.rules.specs.Outcomes.{Lent}
use Rattle.rules.specs.Rows.{present_height}
use Rattle.rules.specs.Append.{next_tail, next_height, append_statement, moved_on}
use Rattle.ledgers.specs.Known.{Findable}

-- the ledger is found, and its row may move on, whatever its tail becomes
pub record Appendable (size : ℕ) (k : Lent) (label : List ℕ) : Type 0 where
  pub there : Findable size k label
  pub below : present_height k label < top_height
  pub next : (tail : List ℕ) → row_holds label tail (next_height k label) ≡ true

-- the row has moved on and its receipt is written; these are its tail and height
pub record Entered (k : Lent) (label entry : List ℕ) (table area tail : List ℕ) (height : ℕ) : Type 0 where
  pub moves : table ≡ moved_on k label entry
  pub writes : area ≡ put k.area 0 (append_statement k label entry)
  pub long : length (append_statement k label entry) ≡ receipt_size
  pub tails : tail ≡ next_tail k label entry
  pub heights : height ≡ next_height k label
