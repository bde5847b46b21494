use mathlib.Core.Path.{◌≡◌}
use mathlib.Core.Bool.{true}
use Rattle.rows.specs.Table.{each}
use Rattle.rules.specs.Bundle.{old_at}
use Rattle.maker.specs.Lists.{roll_led}
use Rattle.listing.proofs.leading.all_led.Given as goal

abbrev pub invariant-loop-i : goal.invariant-loop-i
invariant-loop-i l = (l.at ≡ old_at l.e l.i) × (each (roll_led l.e l.store) l.i ≡ true)
