-- The tests of a call on a ledger that has to be there.
use Rattle.std.specs.Prelude.{List, [], ◌∷◌, ◌++◌, ℕ}
use Rattle.refusals.specs.{not_active, no_such_ledger}
use Rattle.refusals.specs.Order.{Test, ◌⇒◌}
use Rattle.rules.specs.Record.{active}
use Rattle.rules.specs.Outcomes.{Lent, readiness}
use Rattle.rules.specs.Rows.{is_absent, sought}

-- readiness and the search
abbrev pub found : ℕ → Lent → List ℕ → List Test
found size k label = readiness size active not_active k ++ (is_absent (sought k label) ⇒ no_such_ledger) ∷ []
