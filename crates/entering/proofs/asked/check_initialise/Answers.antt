use mathlib.Core.Path.{refl, sym, ◌∙◌}
use Rattle.refusals.proofs.Answered.{number_refuses, passed_on}
use Rattle.entering.proofs.Enters.{not_ready, own-stops, own_passes}
use Rattle.entering.proofs.asked.check_initialise.Goals as goal

pub returns-in_err-check_ready : goal.returns-in_err-check_ready
returns-in_err-check_ready c = passed_on _ _ c.from_residual.ensures.1 ∙ not_ready _ _ _ _ _ c.in_err-check_ready.ensures (number_refuses _)

pub returns-in_err-check_own : goal.returns-in_err-check_own
returns-in_err-check_own c =
    passed_on _ _ c.from_residual-in_err-check_own.ensures.1
    ∙ own-stops _ _ _ _ _ c.in_ok-check_ready.ensures refl _ c.in_err-check_own.ensures (number_refuses _)

pub returns : goal.returns
returns c = c.check_old.ensures ∙ sym (own_passes _ _ _ _ _ c.in_ok-check_ready.ensures refl _ c.in_ok-check_own.ensures refl)
