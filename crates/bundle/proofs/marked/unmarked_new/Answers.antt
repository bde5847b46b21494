use mathlib.Core.Path.{ap, ◌∙◌}
use mathlib.Core.List.{List}
use Prim.Native.Nat.{ℕ}
use Rattle.marks.specs.Entries.{answer_with, pair_marks}
use Rattle.marks.proofs.Refused.{marks_answer}
use Rattle.rules.specs.Bundle.{new_count, new_entries}
use Rattle.bundle.proofs.marked.unmarked_new.Goals as goal

pub returns : goal.returns
returns c =
    let s : List ℕ = c.args.s.now in
    let n : ℕ = c.args.number in
    c.answer_with.ensures ∙ ap (answer_with n) c.check_new_marks.ensures ∙ marks_answer n c.requires.0 (pair_marks (new_entries s)) (new_count s)
