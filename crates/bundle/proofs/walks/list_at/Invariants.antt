use mathlib.Core.Path.{◌≡◌}
use Rattle.rules.specs.Bundle.{list_at}
use Rattle.bundle.proofs.walks.list_at.Given as goal

abbrev pub invariant-loop : goal.invariant-loop
invariant-loop l = l.at ≡ list_at l.s l.counter
