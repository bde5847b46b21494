-- The ledger that a label names in a keeper's table, and its row as the statements show it.
use Rattle.std.specs.Prelude.{Bool, true, false, List, ℕ}
use Rattle.std.specs.Prelude.{Result, Ok, Err}
use Rattle.rows.specs.Row.{tail_of, height_of}
use Rattle.rows.specs.Search.{find}
use Rattle.statement.specs.declared.Kind.{Kind}
use Rattle.statement.specs.declared.Statement.{Statement}
use Rattle.statement.specs.Cut.{no_digest}
use Rattle.rules.specs.declared.Head.{Head}
use Rattle.rules.specs.Outcomes.{Lent}

abbrev pub is_absent : Result ℕ ℕ → Bool
is_absent (Ok i) = false
is_absent (Err n) = true

-- the row's number; where there is none, the number that it gets, as many rows having a smaller label
abbrev pub row_number : Result ℕ ℕ → ℕ
row_number (Ok i) = i
row_number (Err n) = n

-- the search for a label in a keeper's roll
abbrev pub sought : Lent → List ℕ → Result ℕ ℕ
sought k label = find k.head.count k.table label

abbrev pub present_tail : Lent → List ℕ → List ℕ
present_tail k label = tail_of k.table (row_number (sought k label))

abbrev pub present_height : Lent → List ℕ → ℕ
present_height k label = height_of k.table (row_number (sought k label))

-- a receipt: "own rack digest, label, tail, height", with this keeper's identity
abbrev pub receipt_of : Head → Kind → List ℕ → List ℕ → Statement
receipt_of h kind label tail =
    record { kind = kind; identity = h.identity; own = h.own; label = label; tail = tail; other = no_digest; roll = no_digest }
