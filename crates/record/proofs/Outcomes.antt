-- The contract of Wake allows one outcome: two that it allows for the same arguments have the same answer, and leave the same head and table. Assumes nothing.
use mathlib.Core.Path.{sym, ◌∙◌}
use mathlib.Core.List.{[]}
use Rattle.rules.specs.Outcomes.{Outcome, outcome, told}
use Rattle.rules.proofs.Ones.{OneOf}
use Rattle.record.proofs.waking.wake.Kinds as wake
use Rattle.record.proofs.waking.wake.Reads as wake-contract

pub wake_one : OneOf 1 wake.ps wake.r Outcome wake-contract.Post (λ κs a r e. outcome (told a.0 r) e.1.0.now [])
wake_one κs a r r' e e' p q = p ∙ sym q
