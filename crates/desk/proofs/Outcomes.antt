-- The contracts of the verdict allow one outcome: two findings that one allows for the same arguments are equal. Assumes nothing.
use mathlib.Core.Path.{sym, ◌∙◌}
use Rattle.rack.proofs.Outcomes.{One}
use Rattle.desk.specs.declared.Finding.{Finding}
use Rattle.desk.proofs.judging.verdict.Kinds as verdict
use Rattle.desk.proofs.judging.verdict.Reads as verdict-contract
use Rattle.desk.proofs.judging.verdict_with.Kinds as verdict-with
use Rattle.desk.proofs.judging.verdict_with.Reads as verdict-with-contract

pub verdict_one : One 3 verdict.ps verdict.r Finding verdict-contract.Post (λ κs r e. r)
verdict_one κs a r r' e e' p q = p ∙ sym q

pub verdict_with_one : One 3 verdict-with.ps verdict-with.r Finding verdict-with-contract.Post (λ κs r e. r)
verdict_with_one κs a r r' e e' p q = p ∙ sym q
