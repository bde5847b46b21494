-- The worked history meets the premises of demand 3 and has two accepted verdicts, on different statements and of different racks, with one identity,
-- ledger and height; so demand 3 says that their tails are equal. Assumes nothing.
use mathlib.Core.Path.{◌≡◌, refl, ap}
use mathlib.Core.Bool.{true}
use mathlib.Core.List.{List}
use Prim.Native.Nat.{ℕ}
use Rattle.desk.specs.declared.Finding.{Finding}
use Rattle.desk.specs.Verdict.{Question, judging}
use Rattle.safety.specs.Histories.{Judged, orderly, ◌∈◌, at_front, behind}
use Rattle.safety.specs.Chip.{HonestChip}
use Rattle.safety.specs.Hashed.{ToldApart}
use Rattle.safety.specs.Demand.{Accepted}
use Rattle.safety.proofs.Theorem.{demand_3}
use Rattle.worked.proofs.Strings.{rack_A, rack_B, ledger, new_tail, digest_A}
use Rattle.worked.proofs.Goings.{order_so, chip_so}
use Rattle.worked.proofs.Story.{keepers, start, receipt, reading, signers, asks_A, asks_B, history}
use Rattle.worked.proofs.Verdicts.{finds, judged_A, judged_B}
use Rattle.worked.proofs.Apart.{told_apart}
use Rattle.worked.proofs.Kept.{good}

-- the premises
pub in_order : orderly start history ≡ true
in_order = order_so good

pub honest_chip : HonestChip keepers start history
honest_chip = chip_so good

pub apart : ToldApart start history
apart = told_apart good

accepted_verdict : (q : Question) (s : List ℕ) → Judged q s signers ∈ history → judging q s signers ≡ finds
    → Accepted history q.identity q.label 1 (judging q s signers).tail
accepted_verdict q s m e =
    record {
      question = q;
      statement = s;
      signers = signers;
      judged = m;
      accepts = ap (λ (f : Finding). f.number) e;
      identity_is = refl;
      label_is = refl;
      height_is = ap (λ (f : Finding). f.height) e;
      tail_is = refl;
    }

-- of rack A on the receipt, and of rack B on the reading, after the handover
pub of_A : Accepted history digest_A ledger 1 (judging asks_A receipt signers).tail
of_A =
    accepted_verdict asks_A receipt
    (behind (behind (behind (behind (behind (behind (behind (behind (behind (behind (behind at_front))))))))))) judged_A

pub of_B : Accepted history digest_A ledger 1 (judging asks_B reading signers).tail
of_B = accepted_verdict asks_B reading at_front judged_B

-- demand 3 at these two
pub one_tail : (judging asks_A receipt signers).tail ≡ (judging asks_B reading signers).tail
one_tail =
    demand_3 keepers start history in_order honest_chip apart digest_A ledger 1
    (judging asks_A receipt signers).tail (judging asks_B reading signers).tail of_A of_B

-- it is the digest after the entry, and the verdicts are two: of different racks, on different kinds of statement
pub tail_is : (judging asks_A receipt signers).tail ≡ new_tail
tail_is = ap (λ (f : Finding). f.tail) judged_A

pub two : (of_A.question.rack ≡ rack_A) × (of_B.question.rack ≡ rack_B) × (of_A.question.asked ≡ 2) × (of_B.question.asked ≡ 3)
unfolding of_A of_B accepted_verdict
two = (refl, refl, refl, refl)
