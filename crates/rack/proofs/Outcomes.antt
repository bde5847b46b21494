-- Each public call's contract allows one outcome: two that it allows for the same arguments have the same result, and leave the same in what is lent. Assumes nothing.
use mathlib.Core.Path.{◌≡◌, sym, ap, ◌∙◌}
use mathlib.Core.Bool.{Bool}
use mathlib.Core.List.{List}
use Prim.Native.Nat.{ℕ}
use native.Mathlib.Omega.{arith}
use Rattle.std.specs.Prelude.{Result}
use Rattle.std.specs.Result.{result_unwrap_or}
use Rattle.std.proofs.Math.Option.{Option, none, some}
use Rattle.refusals.specs.{out_of_order}
use Rattle.refusals.specs.declared.Refusal.{Refusal}
use Rattle.refusals.specs.Refused.{answer_of}
use Rattle.refusals.proofs.Answered.{same_result}
use Rattle.octets.specs.Layouts.{read}
use Rattle.octets.proofs.Writings.{one_written}
use Rattle.rack.specs.Racks.{Rack, rack_layout}
use Rattle.rack.specs.Promise.{Taken, taken, reading}
pub use Rattle.refusals.proofs.Ones.{One}
use Rattle.rack.proofs.keys.is_rising.Kinds as is-rising
use Rattle.rack.proofs.keys.is_rising.Reads as is-rising-contract
use Rattle.rack.proofs.keys.is_member.Kinds as is_member
use Rattle.rack.proofs.keys.is_member.Reads as is-member-contract
use Rattle.rack.proofs.numbers.majority.Kinds as majority
use Rattle.rack.proofs.numbers.majority.Reads as majority-contract
use Rattle.rack.proofs.reading.is_rack.Kinds as is_rack
use Rattle.rack.proofs.reading.is_rack.Reads as is-rack-contract
use Rattle.rack.proofs.reading.read_rack.Kinds as read-rack
use Rattle.rack.proofs.reading.read_rack.Reads as read-rack-contract
use Rattle.rack.proofs.writing.write_rack.Kinds as write-rack
use Rattle.rack.proofs.writing.write_rack.Reads as write-rack-contract
use Rattle.rack.proofs.digest.rack_digest.Kinds as rack_digest
use Rattle.rack.proofs.digest.rack_digest.Reads as rack-digest-contract

-- reading never answers 11
reading_answers : (s : List ℕ) (keys : List (List ℕ)) → (reading s keys).answer ≡ out_of_order → ⊥
unfolding taken reading
reading_answers s keys = go (read rack_layout s)
  where
    go : (v : Option Rack) → (taken v keys).answer ≡ out_of_order → ⊥
    go (some r) e = omega arith
    go none e = omega arith

-- so its answer, its count and its keys tell which result it has
one_read :
    (s : List ℕ) (keys : List (List ℕ)) (x y : Result ℕ Refusal) (k l : List (List ℕ))
    → record { answer = answer_of x; count = result_unwrap_or x 0; keys = k } ≡ reading s keys
    → record { answer = answer_of y; count = result_unwrap_or y 0; keys = l } ≡ reading s keys → ◌≡◌ {A = Result ℕ Refusal × List (List ℕ)} (x, k) (y, l)
one_read s keys x y k l p q =
    let e : ◌≡◌ {A = Taken} (record { answer = answer_of x; count = result_unwrap_or x 0; keys = k })
    (record { answer = answer_of y; count = result_unwrap_or y 0; keys = l }) = p ∙ sym q in
    let n : answer_of x ≡ out_of_order → ⊥ = λ o. reading_answers s keys (sym (ap (λ (t : Taken). t.answer) p) ∙ o) in
    let r : x ≡ y = same_result 0 x y n (ap (λ (t : Taken). t.answer) e) (ap (λ (t : Taken). t.count) e) in
    λ i. (r i, (e i).keys)

pub is_rising_one : One 0 is-rising.ps is-rising.r Bool is-rising-contract.Post (λ κs r e. r)
is_rising_one κs a r r' e e' p q = p ∙ sym q

pub is_member_one : One 0 is_member.ps is_member.r Bool is-member-contract.Post (λ κs r e. r)
is_member_one κs a r r' e e' p q = p ∙ sym q

pub majority_one : One 0 majority.ps majority.r ℕ majority-contract.Post (λ κs r e. r)
majority_one κs a r r' e e' p q = p ∙ sym q

pub is_rack_one : One 1 is_rack.ps is_rack.r Bool is-rack-contract.Post (λ κs r e. r)
is_rack_one κs a r r' e e' p q = p ∙ sym q

pub read_rack_one : One 2 read-rack.ps read-rack.r (Result ℕ Refusal × List (List ℕ)) read-rack-contract.Post (λ κs r e. (r, e.1.0.now))
read_rack_one κs a r r' e e' p q = one_read _ _ r r' _ _ p q

pub write_rack_one : One 1 write-rack.ps write-rack.r (Result ℕ Refusal × List ℕ) write-rack-contract.Post (λ κs r e. (r, e.1.1.0.now))
write_rack_one κs a r r' e e' p q = one_written _ _ _ _ (λ o. omega arith) r r' _ _ p q

pub rack_digest_one : One 1 rack_digest.ps rack_digest.r (List ℕ) rack-digest-contract.Post (λ κs r e. r)
rack_digest_one κs a r r' e e' p q = p ∙ sym q
