use mathlib.Core.Path.{ap, ◌∙◌}
use mathlib.Core.List.{List}
use Prim.Native.Nat.{ℕ, ◌/◌}
use lib.ListN.{length}
use Rattle.refusals.specs.Order.{first}
use Rattle.refusals.specs.Refused.{refusal_number}
use Rattle.marks.specs.Entries.{marks_tests, pair_marks}
use Rattle.rules.specs.Bundle.{new_entries}
use Rattle.bundle.proofs.Places.{new_half}
use Rattle.bundle.proofs.marked.check_new_marks.Goals as goal

pub returns : goal.returns
returns c =
    let a = c.args in
    let s = a.s.now in
    c.check_all.ensures
    ∙ ap (λ (l : List ℕ). first (marks_tests (refusal_number a.invalid) (pair_marks l) (length l / 2))) c.new_entries.ensures
    ∙ ap (λ (k : ℕ). first (marks_tests (refusal_number a.invalid) (pair_marks (new_entries s)) k)) (new_half s c.requires.0)
