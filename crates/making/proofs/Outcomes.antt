-- The contract of New allows one outcome: two for the same arguments have the same answer, and leave the same head, table and area. Assumes nothing.
use mathlib.Core.Path.{sym, ◌∙◌}
use Rattle.rules.specs.Outcomes.{Outcome, outcome, told}
use Rattle.rules.proofs.Ones.{OneOf}
use Rattle.making.proofs.making.new.Kinds as new
use Rattle.making.proofs.making.new.Reads as new-contract

pub new_one : OneOf 2 new.ps new.r Outcome new-contract.Post (λ κs a r e. outcome (told a.0 r) e.1.0.now e.1.1.1.0.now)
new_one κs a r r' e e' p q = p ∙ sym q
