use mathlib.Core.Path.{◌≡◌}
use Prim.Native.Nat.{◌*◌, ◌≤◌}
use Rattle.rules.specs.Bundle.{longest_bundle, old_at}
use Rattle.bundle.proofs.walks.old_end.Given as goal

abbrev pub invariant-loop : goal.invariant-loop
invariant-loop l = record { placed : l.at ≡ old_at l.s l.counter; near : l.at ≤ 4 * longest_bundle }
