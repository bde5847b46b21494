-- Each call's contract allows one outcome: two that it allows for the same arguments have the same result, and leave the same in what is lent. Assumes nothing.
use mathlib.Core.Path.{sym, ◌∙◌}
use Rattle.octets.specs.Layouts.{Written}
use Rattle.rack.proofs.Outcomes.{One}
use Rattle.filing.proofs.racks.mahqurith_write_rack_block.Kinds as rack-block
use Rattle.filing.proofs.racks.mahqurith_write_rack_block.Reads as rack-block-contract
use Rattle.filing.proofs.receipts_filed.mahqurith_write_receipt.Kinds as receipt-block
use Rattle.filing.proofs.receipts_filed.mahqurith_write_receipt.Reads as receipt-block-contract

pub rack_block_one :
    One 2 rack-block.ps rack-block.r Written rack-block-contract.Post (λ κs r e. record { answer = r.number; count = r.written; area = e.1.0.now })
rack_block_one κs a r r' e e' p q = p ∙ sym q

pub receipt_block_one :
    One 3 receipt-block.ps receipt-block.r Written receipt-block-contract.Post
    (λ κs r e. record { answer = r.number; count = r.written; area = e.1.1.1.0.now })
receipt_block_one κs a r r' e e' p q = p ∙ sym q
