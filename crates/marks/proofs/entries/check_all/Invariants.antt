use mathlib.Core.Path.{◌≡◌}
use Prim.Native.Nat.{◌*◌, ◌≤◌}
use lib.ListN.{length, drop}
use Rattle.refusals.specs.{accepted}
use Rattle.refusals.specs.Order.{first}
use Rattle.refusals.specs.Refused.{refusal_number}
use Rattle.marks.specs.Entries.{marks_tests, pair_marks}
use Rattle.marks.proofs.entries.check_all.Given as goal

abbrev pub invariant-loop-pair : goal.invariant-loop-pair
invariant-loop-pair l =
    (l.pair-iterator.size ≡ 2) × (2 * length l.yielded ≤ length l.s) × (drop (2 * length l.yielded) l.s ≡ l.pair-iterator.rest.now)
    × (first (marks_tests (refusal_number l.invalid) (pair_marks l.s) (length l.yielded)) ≡ accepted)
