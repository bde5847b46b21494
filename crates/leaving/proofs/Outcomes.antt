-- The contract of Finalise allows one outcome: two that it allows for the same arguments have the same answer and head, and leave the same area.
-- Assumes nothing.
use mathlib.Core.Path.{sym, ap, ◌∙◌}
use mathlib.Core.List.{[]}
use Rattle.rules.specs.Outcomes.{Outcome, outcome, told}
use Rattle.rules.proofs.Ones.{OneOf}
use Rattle.leaving.proofs.finalising.finalise.Kinds as finalise
use Rattle.leaving.proofs.finalising.finalise.Reads as finalise-contract

-- the table is lent for reading alone, and is left out
seen : Outcome → Outcome
seen o = record { answer = o.answer; left = record { head = o.left.head; table = []; area = o.left.area } }

pub finalise_one : OneOf 3 finalise.ps finalise.r Outcome finalise-contract.Post (λ κs a r e. outcome (told a.0 r) [] e.1.1.1.0.now)
unfolding seen
finalise_one κs a r r' e e' p q = ap seen (p ∙ sym q)
