-- Each call's contract allows one outcome: two that it allows for the same arguments have the same result, and leave the same in what is lent. Assumes nothing.
use mathlib.Core.Path.{◌≡◌, refl, sym, ◌∙◌}
use mathlib.Core.Bool.{Bool, true, false, cond}
use mathlib.Core.List.{List}
use Prim.Native.Nat.{ℕ}
use lib.ListN.{length}
use lib.Dec.{ltb}
use Rattle.refusals.specs.{accepted, area_too_short, rack_broken}
use Rattle.octets.specs.Strings.{put}
use Rattle.octets.specs.Layouts.{Written, holds, unwritten}
use Rattle.rack.specs.Racks as racks
use Rattle.rack.specs.Racks.{rack_layout}
use Rattle.statement.specs.Kinds.{digest_bytes}
use Rattle.interface.specs.Calls.{digesting_rack}
use Rattle.hash.specs.Promise.{Outcome}
use Rattle.rack.proofs.Outcomes.{One}
use Rattle.desk.specs.declared.Finding.{Finding}
use Rattle.interface.specs.declared.RackRead.{RackRead}
use Rattle.interface.specs.declared.RollRead.{RollRead}
use Rattle.interface.specs.declared.StatementRead.{StatementRead}
use Rattle.interface.proofs.racks.mahqurith_read_rack.Kinds as read-rack
use Rattle.interface.proofs.racks.mahqurith_read_rack.Reads as read-rack-contract
use Rattle.interface.proofs.racks.mahqurith_write_rack.Kinds as write-rack
use Rattle.interface.proofs.racks.mahqurith_write_rack.Reads as write-rack-contract
use Rattle.interface.proofs.rolls.mahqurith_read_roll.Kinds as read-roll
use Rattle.interface.proofs.rolls.mahqurith_read_roll.Reads as read-roll-contract
use Rattle.interface.proofs.rolls.mahqurith_write_roll.Kinds as write-roll
use Rattle.interface.proofs.rolls.mahqurith_write_roll.Reads as write-roll-contract
use Rattle.interface.proofs.statements.mahqurith_read_statement.Kinds as read-statement
use Rattle.interface.proofs.statements.mahqurith_read_statement.Reads as read-statement-contract
use Rattle.interface.proofs.statements.mahqurith_write_statement.Kinds as write-statement
use Rattle.interface.proofs.statements.mahqurith_write_statement.Reads as write-statement-contract
use Rattle.interface.proofs.judging.mahqurith_verdict.Kinds as verdict
use Rattle.interface.proofs.judging.mahqurith_verdict.Reads as verdict-contract
use Rattle.interface.proofs.digests.mahqurith_rack_digest.Kinds as rack_digest
use Rattle.interface.proofs.digests.mahqurith_rack_digest.Reads as rack-digest-contract
use Rattle.interface.proofs.digests.mahqurith_tail_after.Kinds as tail_after
use Rattle.interface.proofs.digests.mahqurith_tail_after.Reads as tail-after-contract
use Rattle.interface.proofs.hashing.mahqurith_sha256.Kinds as sha256
use Rattle.interface.proofs.hashing.mahqurith_sha256.Reads as sha256-contract

pub read_rack_one : One 1 read-rack.ps read-rack.r RackRead read-rack-contract.Post (λ κs r e. r)
read_rack_one κs a r r' e e' p q = p ∙ sym q

pub write_rack_one : One 1 write-rack.ps write-rack.r Written write-rack-contract.Post (λ κs r e. record { answer = r.number; count = r.written; area = e.1.0.now })
write_rack_one κs a r r' e e' p q = p ∙ sym q

pub read_roll_one : One 1 read-roll.ps read-roll.r RollRead read-roll-contract.Post (λ κs r e. r)
read_roll_one κs a r r' e e' p q = p ∙ sym q

pub write_roll_one : One 1 write-roll.ps write-roll.r Written write-roll-contract.Post (λ κs r e. record { answer = r.number; count = r.written; area = e.1.0.now })
write_roll_one κs a r r' e e' p q = p ∙ sym q

pub read_statement_one : One 1 read-statement.ps read-statement.r StatementRead read-statement-contract.Post (λ κs r e. r)
read_statement_one κs a r r' e e' p q = p ∙ sym q

pub write_statement_one : One 1 write-statement.ps write-statement.r Written write-statement-contract.Post (λ κs r e. record { answer = r.number; count = r.written; area = e.1.0.now })
write_statement_one κs a r r' e e' p q = p ∙ sym q

pub verdict_one : One 3 verdict.ps verdict.r Finding verdict-contract.Post (λ κs r e. r)
verdict_one κs a r r' e e' p q = p ∙ sym q

pub sha256_one : One 2 sha256.ps sha256.r Outcome sha256-contract.Post (λ κs r e. record { answer = r; area = e.1.0.now })
sha256_one κs a r r' e e' p q = p ∙ sym q

pub rack_digest_one : One 2 rack_digest.ps rack_digest.r Written rack-digest-contract.Post (λ κs r e. record { answer = r.number; count = r.written; area = e.1.0.now })
rack_digest_one κs a r r' e e' p q = p ∙ sym q

pub tail_after_one : One 2 tail_after.ps tail_after.r (List ℕ) tail-after-contract.Post (λ κs r e. e.0.now)
tail_after_one κs a r r' e e' p q = p ∙ sym q

-- a refusal leaves the area
pub rack_digest_spared : (s area : List ℕ) → ((digesting_rack s area).answer ≡ accepted → ⊥) → (digesting_rack s area).area ≡ area
unfolding digesting_rack unwritten
rack_digest_spared s area = go (holds rack_layout s) (ltb (length area) digest_bytes)
  where
    told : Bool → Bool → Written
    told whole short =
        cond whole
        (cond short (unwritten area_too_short area) (record { answer = accepted; count = digest_bytes; area = put area 0 (racks.rack_digest s) }))
        (unwritten rack_broken area)

    go : (whole short : Bool) → ((told whole short).answer ≡ accepted → ⊥) → (told whole short).area ≡ area
    go true true refused = refl
    go true false refused = absurd (refused refl)
    go false short refused = refl
