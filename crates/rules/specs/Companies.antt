-- The two companies that share the keepers. 02, M-108: "An opera and a dance company share the keepers."
use Rattle.std.specs.Prelude.{Bool, not, cond, List, ℕ, zero, suc, ◌+◌, get_or, ltb}
use Rattle.rows.specs.Row.{label_of}

-- "first byte .. below 128"
abbrev pub border : ℕ
border = 128

-- "neither may get more than 31 rows by New"
abbrev pub most_of_one : ℕ
most_of_one = 31

-- "Labels whose first byte is below 128 belong to the first, the others to the second": the company of a label, true for the first
unfoldable pub company : List ℕ → Bool
company label = ltb (get_or label 0 0) border

-- a label belongs to a company
unfoldable pub belongs : List ℕ → Bool → Bool
belongs label first = cond first (company label) (not (company label))

-- how many of the first n rows belong to a company, however they came
unfoldable pub company_rows : ℕ → List ℕ → Bool → ℕ
company_rows zero rows first = 0
company_rows (suc n) rows first = company_rows n rows first + cond (belongs (label_of rows n) first) 1 0
