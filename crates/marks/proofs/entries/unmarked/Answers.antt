use mathlib.Core.Path.{ap, ◌∙◌}
use Prim.Native.Nat.{◌/◌}
use lib.ListN.{length}
use Rattle.marks.specs.Entries.{answer_with, pair_marks}
use Rattle.marks.proofs.Refused.{marks_answer}
use Rattle.marks.proofs.entries.unmarked.Goals as goal

pub returns : goal.returns
returns c =
    let a = c.args in
    c.answer_with.ensures ∙ ap (answer_with a.number) c.check_all.ensures ∙ marks_answer a.number c.requires (pair_marks a.s.now) (length a.s.now / 2)
