use mathlib.Core.Path.{sym, ◌∙◌}
use Rattle.refusals.proofs.Answered.{number_refuses, passed_on}
use Rattle.rules.proofs.Firsts.{unlent_unready}
use Rattle.record.proofs.ready.check_ready.Goals as goal

pub returns-in_err-check_lent : goal.returns-in_err-check_lent
returns-in_err-check_lent c =
    let unlent = c.in_err-check_lent in
    passed_on _ _ c.from_residual.ensures.1 ∙ unlent.ensures ∙ sym (unlent_unready _ _ _ _ _ unlent.ensures (number_refuses _))
