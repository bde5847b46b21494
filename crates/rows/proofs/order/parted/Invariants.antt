use Rattle.std.proofs.Common.{◌≡◌, ℕ, Bool, true, false, ◌-◌, ◌≤◌, ◌<◌}
use Rattle.rows.specs.Search.{Falls}
use Rattle.rows.proofs.order.parted.Given as goal

abbrev pub invariant-loop-low : goal.invariant-loop-low
invariant-loop-low g l = record {
  low : l.low ≤ l.high;
  high : l.high ≤ l.count;
  below : (test : ℕ → Bool) → ((i : ℕ) (b : Bool) → i < l.count → goal.F-post g l.is_smaller i b → b ≡ test i) → Falls test l.count
      → (i : ℕ) → i < l.low → test i ≡ true;
  from : (test : ℕ → Bool) → ((i : ℕ) (b : Bool) → i < l.count → goal.F-post g l.is_smaller i b → b ≡ test i) → Falls test l.count
      → (i : ℕ) → l.high ≤ i → i < l.count → test i ≡ false;
}

abbrev pub decreases-loop-low : goal.decreases-loop-low
decreases-loop-low g l = l.high - l.low
