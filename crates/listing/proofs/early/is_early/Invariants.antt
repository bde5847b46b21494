use mathlib.Core.Path.{◌≡◌}
use mathlib.Core.Bool.{false}
use Prim.Native.Nat.{ℕ}
use Rattle.rules.specs.Bundle.{old_at, old_roll}
use Rattle.rules.specs.Derivation.{some}
use Rattle.listing.specs.Leading.{has_label}
use Rattle.listing.proofs.early.is_early.Given as goal

abbrev pub invariant-loop : goal.invariant-loop
invariant-loop l = (l.at ≡ old_at l.e l.counter) × (some (λ (j : ℕ). has_label (old_roll l.e j) l.label) l.counter ≡ false)
