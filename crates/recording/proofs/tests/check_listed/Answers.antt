use mathlib.Core.Path.{refl, sym, ◌∙◌}
use Rattle.refusals.specs.Order.{first}
use Rattle.refusals.proofs.Answered.{number_refuses, passed_on}
use Rattle.ledgers.proofs.Actives.{unready_first, ready_first}
use Rattle.recording.proofs.tests.check_listed.Goals as goal

pub returns-in_err-check_ready : goal.returns-in_err-check_ready
returns-in_err-check_ready c = passed_on _ _ c.from_residual.ensures.1 ∙ sym (unready_first _ _ _ _ c.in_err-check_ready.ensures (number_refuses _))

pub returns-then-not-is_list : goal.returns-then-not-is_list
unfolding first
returns-then-not-is_list c =
    sym (ready_first _ _ _ _ c.in_ok-check_ready.ensures refl ∙ rw (sym c.is_list.ensures ∙ c.if-not-is_list.true))

pub returns : goal.returns
unfolding first
returns c = sym (ready_first _ _ _ _ c.in_ok-check_ready.ensures refl ∙ rw (sym c.is_list.ensures ∙ c.if-not-is_list.false))
