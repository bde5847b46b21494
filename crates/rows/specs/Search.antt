-- The search for a label: the one way that the calls find a ledger's row, or the place where it would stand.
use Rattle.std.specs.Prelude.{◌≡◌, Bool, true, false, cond, List, ℕ, zero, suc, min, ◌+◌, ◌/◌, ◌≤◌, ◌<◌, length}
use Rattle.octets.specs.Strings.{same, before}
use Rattle.rows.specs.Sizes.{row_bytes, most_rows}
use Rattle.rows.specs.Row.{label_of}
use Rattle.std.specs.Prelude.{Result, Ok, Err}

-- how many rows a string holds of those that a count says: whole ones, and no more than a roll has
unfoldable pub held : ℕ → List ℕ → ℕ
held count rows = min count (min most_rows (length rows / row_bytes))

-- what is found already; otherwise this row, number n, where it has the label, and one smaller label more where its own is smaller
abbrev pub or_next : Result ℕ ℕ → ℕ → List ℕ → List ℕ → Result ℕ ℕ
or_next (Ok i) n row label = Ok i
or_next (Err k) n row label = cond (same row label) (Ok n) (Err (k + cond (before row label) 1 0))

-- the first of n rows that has the label; 02, M-105: where none has it, "the number of rows with a smaller label"
unfoldable pub first_of : ℕ → List ℕ → List ℕ → Result ℕ ℕ
first_of zero rows label = Err 0
first_of (suc n) rows label = or_next (first_of n rows label) n (label_of rows n) label

-- the number of the row that has the label, among the first `count`, or how many of them have a smaller one
unfoldable pub find : ℕ → List ℕ → List ℕ → Result ℕ ℕ
find count rows label = first_of (held count rows) rows label

-- the labels of the first n rows are smaller, and of the rows from there on, among the first `count`, none is
pub record Parts (count : ℕ) (rows label : List ℕ) (n : ℕ) : Type 0 where
  pub within : n ≤ count
  pub below : (i : ℕ) → i < n → before (label_of rows i) label ≡ true
  pub from : (i : ℕ) → n ≤ i → i < count → before (label_of rows i) label ≡ false

-- a test that holds of a number below `count` holds of each number before it
abbrev pub Falls : (ℕ → Bool) → ℕ → Type 0
Falls test count = (i j : ℕ) → i < j → j < count → test j ≡ true → test i ≡ true

-- a test holds of the first n of the numbers below `count`, and of none of the others
pub record Halved (test : ℕ → Bool) (count n : ℕ) : Type 0 where
  pub within : n ≤ count
  pub below : (i : ℕ) → i < n → test i ≡ true
  pub from : (i : ℕ) → n ≤ i → i < count → test i ≡ false
