-- Each public call leaves no choice: two outcomes that its contract allows are equal. Assumes nothing.
use mathlib.Core.Path.{◌≡◌, sym, ap, ◌∙◌}
use mathlib.Core.List.{List}
use Prim.Native.Nat.{ℕ}
use native.Mathlib.Omega.{arith}
use Rattle.std.specs.Prelude.{Result}
use Rattle.std.specs.Result.{result_unwrap_or}
use Rattle.std.proofs.Math.Option.{Option, none, some}
use Rattle.refusals.specs.{out_of_order}
use Rattle.refusals.specs.declared.Refusal.{Refusal}
use Rattle.refusals.specs.Refused.{answer_of}
use Rattle.refusals.proofs.Answered.{same_result}
use Rattle.refusals.proofs.Ones.{One}
use Rattle.octets.specs.Layouts.{Written, read}
use Rattle.octets.proofs.Writings.{one_written}
use Rattle.roll.specs.Roll.{Roll, Reading, roll_layout, outcome, reading_roll, writing_roll}
use Rattle.roll.proofs.read.read_roll.Kinds as read-roll
use Rattle.roll.proofs.read.read_roll.Reads as read-roll-contract
use Rattle.roll.proofs.write.write_roll.Kinds as write-roll
use Rattle.roll.proofs.write.write_roll.Reads as write-roll-contract

pub read_roll_once : (s table : List ℕ) (x y : Reading) → x ≡ reading_roll s table → y ≡ reading_roll s table → x ≡ y
read_roll_once s table x y p q = cc

pub write_roll_once :
    (count : ℕ) (rows area : List ℕ) (x y : Written) → x ≡ writing_roll count rows area → y ≡ writing_roll count rows area → x ≡ y
write_roll_once count rows area x y p q = cc

-- reading never answers 11
reading_answers : (s table : List ℕ) → (reading_roll s table).answer ≡ out_of_order → ⊥
unfolding outcome reading_roll
reading_answers s table = go (read roll_layout s)
  where
    go : (v : Option Roll) → (outcome v table).answer ≡ out_of_order → ⊥
    go (some r) e = omega arith
    go none e = omega arith

one_read :
    (s table : List ℕ) (x y : Result ℕ Refusal) (k l : List ℕ) → record { answer = answer_of x; count = result_unwrap_or x 0; rows = k } ≡ reading_roll s table
    → record { answer = answer_of y; count = result_unwrap_or y 0; rows = l } ≡ reading_roll s table → ◌≡◌ {A = Result ℕ Refusal × List ℕ} (x, k) (y, l)
one_read s table x y k l p q =
    let e : ◌≡◌ {A = Reading} (record { answer = answer_of x; count = result_unwrap_or x 0; rows = k })
    (record { answer = answer_of y; count = result_unwrap_or y 0; rows = l }) = p ∙ sym q in
    let n : answer_of x ≡ out_of_order → ⊥ = λ o. reading_answers s table (sym (ap (λ (t : Reading). t.answer) p) ∙ o) in
    let r : x ≡ y = same_result 0 x y n (ap (λ (t : Reading). t.answer) e) (ap (λ (t : Reading). t.count) e) in
    λ i. (r i, (e i).rows)

-- and the results themselves are equal, and what is left in the table or the area
pub read_roll_one : One 2 read-roll.ps read-roll.r (Result ℕ Refusal × List ℕ) read-roll-contract.Post (λ κs r e. (r, e.1.0.now))
read_roll_one κs a r r' e e' p q = one_read _ _ r r' _ _ p q

pub write_roll_one : One 2 write-roll.ps write-roll.r (Result ℕ Refusal × List ℕ) write-roll-contract.Post (λ κs r e. (r, e.1.1.0.now))
unfolding writing_roll
write_roll_one κs a r r' e e' p q = one_written _ _ _ _ (λ o. omega arith) r r' _ _ p q
