-- The contracts on a block allow one outcome: two that one allows for the same arguments are equal. Assumes nothing.
use mathlib.Core.Path.{◌≡◌, refl, sym, ◌∙◌}
use native.Mathlib.Omega.{arith}
use Rattle.rack.proofs.Outcomes.{One}
use Rattle.desk.specs.declared.Finding.{Finding}
use Rattle.receipts.specs.declared.Sort.{Sort}
use Rattle.receipts.specs.declared.Sort.TheVariants.{Damaged, Rack, Receipt}
use Rattle.receipts.specs.Sorts.{sort_number}
use Rattle.receipts.proofs.block.sort_of.Kinds as sort-of
use Rattle.receipts.proofs.block.sort_of.Reads as sort-of-contract
use Rattle.receipts.proofs.judging.judged.Kinds as judged
use Rattle.receipts.proofs.judging.judged.Reads as judged-contract

-- a number is that of one sort
by_number : (s t : Sort) → sort_number s ≡ sort_number t → s ≡ t
by_number Damaged Damaged e = refl
by_number Damaged Rack e = absurd (omega arith)
by_number Damaged Receipt e = absurd (omega arith)
by_number Rack Damaged e = absurd (omega arith)
by_number Rack Rack e = refl
by_number Rack Receipt e = absurd (omega arith)
by_number Receipt Damaged e = absurd (omega arith)
by_number Receipt Rack e = absurd (omega arith)
by_number Receipt Receipt e = refl

pub sort_of_one : One 1 sort-of.ps sort-of.r Sort sort-of-contract.Post (λ κs r e. r)
sort_of_one κs a r r' e e' p q = by_number r r' (p ∙ sym q)

pub judged_one : One 2 judged.ps judged.r Finding judged-contract.Post (λ κs r e. r)
judged_one κs a r r' e e' p q = p ∙ sym q
