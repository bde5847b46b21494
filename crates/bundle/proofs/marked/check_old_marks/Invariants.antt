use mathlib.Core.Path.{◌≡◌}
use Rattle.refusals.specs.{accepted}
use Rattle.refusals.specs.Order.{first}
use Rattle.refusals.specs.Refused.{refusal_number}
use Rattle.marks.specs.Entries.{marks_tests}
use Rattle.rules.specs.Bundle.{old_at, old_marks}
use Rattle.bundle.proofs.marked.check_old_marks.Given as goal

abbrev pub invariant-loop : goal.invariant-loop
invariant-loop l = record {
  placed : l.at ≡ old_at l.s l.counter;
  valid : first (marks_tests (refusal_number l.invalid) (old_marks l.s) l.counter) ≡ accepted;
}
