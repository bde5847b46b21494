-- Laws of a keeper that is ready for a call: its first tests let by, or its status refuses. Assumes nothing.
use mathlib.Core.Path.{◌≡◌}
use mathlib.Core.Bool.{true, false}
use mathlib.Core.List.{List, ◌++◌}
use Prim.Native.Nat.{ℕ, ◌≤◌}
use borrow.Author.Tests.{le-ltb, eq-eqb, ne_eqb}
use lib.ListN.{length}
use lib.Dec.{eqb}
use Rattle.refusals.specs.{accepted}
use Rattle.refusals.specs.Order.{Test, first}
use Rattle.rules.specs.Record.{sound}
use Rattle.rules.specs.Outcomes.{Lent, Outcome, refused, unless, lending, readiness}

module _ (size : ℕ) (k : Lent) (room : size ≤ length k.area) (sounds : sound k.head k.table ≡ true) where
  pub lent_by : first (lending size k) ≡ accepted
  unfolding first lending
  lent_by = rw (le-ltb (length k.area) size room, sounds)

  pub status_refuses : (status number : ℕ) (ts : List Test) → (k.head.status ≡ status → ⊥) → first (readiness size status number k ++ ts) ≡ number
  unfolding first lending readiness
  status_refuses status number ts other = rw (le-ltb (length k.area) size room, sounds, ne_eqb k.head.status status other)

  pub ready_by : (status number : ℕ) (ts : List Test) → k.head.status ≡ status → first (readiness size status number k ++ ts) ≡ first ts
  unfolding first lending readiness
  ready_by status number ts same = rw (le-ltb (length k.area) size room, sounds, eq-eqb k.head.status status same)

-- what a refusal and an acceptance come to
pub comes_to : (n m height : ℕ) (k : Lent) (effect : Outcome) → n ≡ m → eqb m accepted ≡ false → unless n height k effect ≡ refused m height k
unfolding unless
comes_to n m height k effect e r = rw (e, r)

pub has_effect : (n height : ℕ) (k : Lent) (effect : Outcome) → n ≡ accepted → unless n height k effect ≡ effect
unfolding unless
has_effect n height k effect e = rw e
