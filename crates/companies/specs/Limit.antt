-- 02, M-108: "neither may get more than 31 rows by New".
use Rattle.std.specs.Prelude.{◌≡◌, Bool, not, List, ℕ, ◌+◌, ◌≤◌, length}
use Rattle.refusals.specs.{accepted}
use Rattle.rows.specs.Sizes.{label_bytes}
use Rattle.rules.specs.Outcomes.{Lent}
use Rattle.rules.specs.Companies.{most_of_one, company, company_rows}
use Rattle.rules.specs.New.{making}

-- how many rows of a company a record has
abbrev pub has_of : Lent → Bool → ℕ
has_of k first = company_rows k.head.count k.table first

-- an accepted New gives its label's company one row more, 31 at most, and the other none
pub record Limited (k : Lent) (label : List ℕ) : Type 0 where
  pub one_more_own : has_of (making k label).left (company label) ≡ has_of k (company label) + 1
  pub at_most : has_of (making k label).left (company label) ≤ most_of_one
  pub others_stay : has_of (making k label).left (not (company label)) ≡ has_of k (not (company label))

abbrev pub Limit : Type 0
Limit = (k : Lent) (label : List ℕ) → length label ≡ label_bytes → (making k label).answer.number ≡ accepted → Limited k label
