-- Initialise's contract allows one outcome: two that it allows for the same arguments have the same result, and leave the same in what is lent.
-- Assumes nothing.
use mathlib.Core.Path.{sym, ◌∙◌}
use Rattle.rules.specs.Outcomes.{Outcome, outcome, told}
use Rattle.rules.proofs.Ones.{OneOf}
use Rattle.entering.proofs.entry.initialise.Kinds as initialise
use Rattle.entering.proofs.entry.initialise.Reads as initialise-contract

pub initialise_one :
    OneOf 5 initialise.ps initialise.r Outcome initialise-contract.Post (λ κs a r e. outcome (told a.0 r) e.1.0.now e.1.1.1.1.1.1.0.now)
initialise_one κs a r r' e e' p q = p ∙ sym q
