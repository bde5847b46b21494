use mathlib.Core.Path.{ap, ◌∙◌}
use Rattle.marks.specs.Entries.{answer_with}
use Rattle.marks.proofs.Refused.{mark_answer}
use Rattle.marks.proofs.entries.mark_refusal.Goals as goal

pub returns : goal.returns
returns c = c.answer_with.ensures ∙ ap (answer_with c.args.number) c.check_marks.ensures ∙ mark_answer c.args.number c.args.marks
