-- Each call's contract allows one outcome: two that it allows for the same arguments have the same result, and leave the same in what is lent. Assumes nothing.
use mathlib.Core.Path.{sym, ap, ◌∙◌}
use mathlib.Core.List.{[]}
use Rattle.rules.specs.Outcomes.{Outcome, outcome, told}
use Rattle.rules.proofs.Ones.{OneOf}
use Rattle.handover.proofs.activating.activate.Kinds as activate
use Rattle.handover.proofs.activating.activate.Reads as activate-contract
use Rattle.handover.proofs.checking.bytes_to_check.Kinds as bytes-to-check
use Rattle.handover.proofs.checking.bytes_to_check.Reads as bytes-to-check-contract

-- what an outcome shows besides the table, which a call that is lent it to read cannot change
abbrev seen : Outcome → Outcome
seen o = record { answer = o.answer; left = record { head = o.left.head; table = []; area = o.left.area } }

pub activate_one : OneOf 4 activate.ps activate.r Outcome activate-contract.Post (λ κs a r e. outcome (told a.0 r) [] [])
activate_one κs a r r' e e' p q = ap seen (p ∙ sym q)

pub bytes_to_check_one :
    OneOf 5 bytes-to-check.ps bytes-to-check.r Outcome bytes-to-check-contract.Post (λ κs a r e. outcome (told a.0 r) [] e.1.1.1.1.1.1.1.0.now)
bytes_to_check_one κs a r r' e e' p q = ap seen (p ∙ sym q)
