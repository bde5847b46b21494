-- The contracts of the pass allow one outcome: two nights that one allows for the same arguments are equal. Assumes nothing.
use mathlib.Core.Path.{sym, ◌∙◌}
use Rattle.rack.proofs.Outcomes.{One}
use Rattle.night.specs.declared.Night.{Night}
use Rattle.night.proofs.Night.start.Kinds as start
use Rattle.night.proofs.Night.start.Reads as start-contract
use Rattle.night.proofs.Night.pass.Kinds as pass
use Rattle.night.proofs.Night.pass.Reads as pass-contract

pub start_one : One 0 start.ps start.r Night start-contract.Post (λ κs r e. r)
start_one κs a r r' e e' p q = p ∙ sym q

pub pass_one : One 2 pass.ps pass.r Night pass-contract.Post (λ κs r e. e.0.now)
pass_one κs a r r' e e' p q = p ∙ sym q
