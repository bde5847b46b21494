-- The call's contract allows one outcome: two that it allows for the same arguments have the same result, and leave the same in the area. Assumes nothing.
use mathlib.Core.Path.{◌≡◌, sym, ap, ◌∙◌}
use mathlib.Core.Bool.{Bool, true, false}
use mathlib.Core.List.{List}
use Prim.Native.Nat.{ℕ}
use native.Mathlib.Omega.{arith}
use lib.ListN.{length}
use Rattle.std.specs.Prelude.{⊤, Result, nat_le}
use Rattle.refusals.specs.{accepted, input_too_long, out_of_order}
use Rattle.refusals.specs.declared.Refusal.{Refusal}
use Rattle.refusals.specs.Refused.{answer_of}
use Rattle.refusals.proofs.Answered.{same_test}
use Rattle.refusals.proofs.Ones.{One}
use Rattle.hash.specs.Sha256.{sha256}
use Rattle.hash.specs.Promise.{longest, Outcome, either, hashing}
use Rattle.hash.proofs.sha256.Kinds as sha-call
use Rattle.hash.proofs.sha256.Reads as sha-contract

module _ (m area : List ℕ) where
  -- it never answers 11
  hashing_answers : (hashing m area).answer ≡ out_of_order → ⊥
  unfolding hashing
  hashing_answers = go (nat_le (length m) longest)
    where
      go : (b : Bool) → (either b (record { answer = accepted; area = sha256 m }) (record { answer = input_too_long; area = area })).answer ≡ out_of_order → ⊥
      go true e = omega arith
      go false e = omega arith

  one_hashed :
      (x y : Result ⊤ Refusal) (s t : List ℕ) → record { answer = answer_of x; area = s } ≡ hashing m area → record { answer = answer_of y; area = t } ≡ hashing m area
      → ◌≡◌ {A = Result ⊤ Refusal × List ℕ} (x, s) (y, t)
  one_hashed x y s t p q =
      let e : ◌≡◌ {A = Outcome} (record { answer = answer_of x; area = s }) (record { answer = answer_of y; area = t }) = p ∙ sym q in
      let n : answer_of x ≡ out_of_order → ⊥ = λ o. hashing_answers (sym (ap (λ (w : Outcome). w.answer) p) ∙ o) in
      let r : x ≡ y = same_test x y n (ap (λ (w : Outcome). w.answer) e) in
      λ i. (r i, (e i).area)

pub sha256_one : One 2 sha-call.ps sha-call.r (Result ⊤ Refusal × List ℕ) sha-contract.Post (λ κs r e. (r, e.1.0.now))
sha256_one κs a r r' e e' p q = one_hashed _ _ r r' _ _ p q
