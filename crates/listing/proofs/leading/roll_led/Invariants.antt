use mathlib.Core.Path.{◌≡◌}
use mathlib.Core.Bool.{true}
use Prim.Native.Nat.{ℕ}
use Rattle.rows.specs.Row.{label_of}
use Rattle.rows.specs.Table.{each}
use Rattle.roll.specs.Roll.{roll_layout}
use Rattle.maker.specs.Lists.{led}
use Rattle.listing.proofs.leading.roll_led.Given as goal

abbrev pub invariant-loop-q : goal.invariant-loop-q
invariant-loop-q l = each (λ (j : ℕ). led l.e l.store (label_of (roll_layout.cut l.roll).rows j)) l.q ≡ true
