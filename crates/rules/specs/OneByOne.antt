-- 02, M-100: "Record and statement are those after appending them one by one." What that says of Append's rule and of the rule for many.
use Rattle.std.specs.Prelude.{◌≡◌, List, ℕ, zero, suc, ◌+◌, ◌-◌, ◌*◌, ◌<◌, length, take, drop}
use Rattle.refusals.specs.{accepted, list_of_wrong_length, height_at_top}
use Rattle.statement.specs.Kinds.{digest_bytes}
use Rattle.rules.specs.Outcomes.{Lent, Outcome}
use Rattle.rules.specs.Append.{appending}
use Rattle.rules.specs.AppendMany.{entries, appending_many}

-- entry i of a list
abbrev pub entry_at : List ℕ → ℕ → List ℕ
entry_at list i = take digest_bytes (drop (digest_bytes * i) list)

-- what the appends of the first entries leave, one after the other, each at the height after the one before
unfoldable pub after_entries : Lent → List ℕ → List ℕ → ℕ → ℕ → Lent
after_entries k label list expected zero = k
after_entries k label list expected (suc i) = (appending (after_entries k label list expected i) label (entry_at list i) (expected + i)).left

-- the append of entry i in its turn
abbrev pub append_of : Lent → List ℕ → List ℕ → ℕ → ℕ → Outcome
append_of k label list expected i = appending (after_entries k label list expected i) label (entry_at list i) (expected + i)

-- an entry whose append would pass the top
pub record TooHigh (k : Lent) (label list : List ℕ) (expected : ℕ) : Type 0 where
  pub which : ℕ
  pub listed : which < entries list
  pub before_it : (i : ℕ) → i < which → (append_of k label list expected i).answer.number ≡ accepted
  pub refuses : (append_of k label list expected which).answer.number ≡ height_at_top

pub record OneByOne (k : Lent) (label list : List ℕ) (expected : ℕ) : Type 0 where
  -- where the call is accepted, so is each append, and the outcome is the last one's: answer, head, table and area
  pub each_accepted : (appending_many k label list expected).answer.number ≡ accepted → (i : ℕ) → i < entries list → (append_of k label list expected i).answer.number ≡ accepted
  pub last_outcome : (appending_many k label list expected).answer.number ≡ accepted → appending_many k label list expected ≡ append_of k label list expected (entries list - 1)
  -- where it is refused with 12, one of the appends is
  pub top_passed : (appending_many k label list expected).answer.number ≡ height_at_top → TooHigh k label list expected
  -- where it is refused with another number than 32, with 11 too, the first append is, with the same outcome
  pub first_refused :
      ((appending_many k label list expected).answer.number ≡ accepted → ⊥)
      → ((appending_many k label list expected).answer.number ≡ list_of_wrong_length → ⊥)
      → ((appending_many k label list expected).answer.number ≡ height_at_top → ⊥)
      → appending_many k label list expected ≡ append_of k label list expected 0
  -- with one entry it is Append
  pub one_entry : length list ≡ digest_bytes → appending_many k label list expected ≡ appending k label list expected
