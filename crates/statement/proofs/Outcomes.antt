-- Each public call's contract allows one outcome: two that it allows for the same arguments have the same result, and leave the same in the area. Assumes nothing.
use mathlib.Core.Path.{◌≡◌, sym, ap, ◌∙◌}
use mathlib.Core.Bool.{Bool, true, false, cond}
use mathlib.Core.List.{List}
use Prim.Native.Nat.{ℕ}
use native.Mathlib.Omega.{arith}
use Rattle.std.specs.Prelude.{Result}
use Rattle.std.specs.Result.{result_unwrap_or}
use Rattle.refusals.specs.{accepted, statement_not_asked, out_of_order}
use Rattle.refusals.specs.declared.Refusal.{Refusal}
use Rattle.refusals.specs.Refused.{answer_of}
use Rattle.refusals.proofs.Answered.{same_result}
use Rattle.refusals.proofs.Ones.{One}
use Rattle.octets.specs.Layouts.{holds}
use Rattle.octets.proofs.Writings.{one_written}
use Rattle.statement.specs.declared.Statement.{Statement}
use Rattle.statement.specs.Cut.{cut_statement, blank_statement}
use Rattle.statement.specs.Layout.{Reading, statement_layout, reading}
use Rattle.statement.proofs.read_statement.Kinds as read-statement
use Rattle.statement.proofs.read_statement.Reads as read-statement-contract
use Rattle.statement.proofs.write_statement.Kinds as write-statement
use Rattle.statement.proofs.write_statement.Reads as write-statement-contract

-- reading never answers 11
reading_answers : (s : List ℕ) → (reading s).answer ≡ out_of_order → ⊥
unfolding reading
reading_answers s = go (holds statement_layout s)
  where
    go :
        (b : Bool)
        → (cond {A = Reading} b (record { answer = accepted; statement = cut_statement s }) (record { answer = statement_not_asked; statement = blank_statement })).answer
        ≡ out_of_order
        → ⊥
    go true e = omega arith
    go false e = omega arith

one_read :
    (s : List ℕ) (x y : Result Statement Refusal) → record { answer = answer_of x; statement = result_unwrap_or x blank_statement } ≡ reading s
    → record { answer = answer_of y; statement = result_unwrap_or y blank_statement } ≡ reading s → x ≡ y
one_read s x y p q =
    let e : ◌≡◌ {A = Reading} (record { answer = answer_of x; statement = result_unwrap_or x blank_statement })
    (record { answer = answer_of y; statement = result_unwrap_or y blank_statement }) = p ∙ sym q in
    let n : answer_of x ≡ out_of_order → ⊥ = λ o. reading_answers s (sym (ap (λ (t : Reading). t.answer) p) ∙ o) in
    same_result blank_statement x y n (ap (λ (t : Reading). t.answer) e) (ap (λ (t : Reading). t.statement) e)

pub read_statement_one : One 1 read-statement.ps read-statement.r (Result Statement Refusal) read-statement-contract.Post (λ κs r e. r)
read_statement_one κs a r r' e e' p q = one_read _ r r' p q

pub write_statement_one : One 1 write-statement.ps write-statement.r (Result ℕ Refusal × List ℕ) write-statement-contract.Post (λ κs r e. (r, e.1.0.now))
write_statement_one κs a r r' e e' p q = one_written _ _ _ _ (λ o. omega arith) r r' _ _ p q
