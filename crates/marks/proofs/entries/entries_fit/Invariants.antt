use mathlib.Core.Path.{◌≡◌}
use mathlib.Core.Bool.{true}
use Prim.Native.Nat.{◌*◌, ◌≤◌}
use lib.ListN.{length, drop}
use Rattle.marks.specs.Entries.{entries_fit, pair_position, pair_marks}
use Rattle.marks.proofs.Listed.{lowest}
use Rattle.marks.proofs.entries.entries_fit.Given as goal

abbrev pub invariant-loop-pair : goal.invariant-loop-pair
invariant-loop-pair l =
    (l.pair-iterator.size ≡ 2) × (2 * length l.yielded ≤ length l.s) × (drop (2 * length l.yielded) l.s ≡ l.pair-iterator.rest.now)
    × (l.low ≡ lowest (pair_position l.s) (length l.yielded))
    × (entries_fit l.n (pair_position l.s) (pair_marks l.s) (length l.yielded) ≡ true)
