-- Each call's contract allows one outcome: two that it allows for the same arguments have the same result, and leave the same in what is lent. Assumes nothing.
use mathlib.Core.Path.{sym, ◌∙◌}
use Rattle.rack.proofs.Outcomes.{One}
use Rattle.store.specs.Append.{Appended}
use Rattle.store.specs.Read.{Copied}
use Rattle.store.proofs.appending.mahqurith_store_append.Kinds as append
use Rattle.store.proofs.appending.mahqurith_store_append.Reads as append-contract
use Rattle.store.proofs.reading.mahqurith_store_read.Kinds as read
use Rattle.store.proofs.reading.mahqurith_store_read.Reads as read-contract

pub append_one :
    One 2 append.ps append.r Appended append-contract.Post
    (λ κs r e. record { number = r.number; written = r.written; height = r.height; area = e.0.now })
append_one κs a r r' e e' p q = p ∙ sym q

pub read_one :
    One 2 read.ps read.r Copied read-contract.Post
    (λ κs r e. record { number = r.number; written = r.written; height = r.height; output = e.1.1.0.now })
read_one κs a r r' e e' p q = p ∙ sym q
