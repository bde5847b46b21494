-- Writing by a layout, case by case: what contents and an area decide of the outcome; and that it allows one result. Assumes nothing.
use mathlib.Core.Path.{◌≡◌, sym, ap, ◌∙◌}
use mathlib.Core.Bool.{Bool, true, false, cond}
use Prim.Native.Nat.{ℕ, ◌≤◌, ◌<◌}
use mathlib.Core.List.{List}
use native.Mathlib.Omega.{arith}
use lib.ListN.{length}
use lib.Dec.{ltb}
use borrow.Author.Tests.{lt-ltb, le-ltb}
use Rattle.std.specs.Prelude.{Result}
use Rattle.std.specs.Result.{result_unwrap_or}
use Rattle.refusals.specs.{accepted, area_too_short, out_of_order}
use Rattle.refusals.specs.declared.Refusal.{Refusal}
use Rattle.refusals.specs.Refused.{answer_of}
use Rattle.refusals.proofs.Answered.{same_result}
use Rattle.octets.specs.Strings.{put}
use Rattle.octets.specs.Layouts.{Layout, Written, unwritten, writing}

module _ {C : Type 0} (L : Layout C) (broken : ℕ) (v : C) (area : List ℕ) where
  pub writing-broken : L.fits v ≡ false → writing L broken v area ≡ record { answer = broken; count = 0; area = area }
  unfolding unwritten writing
  writing-broken f = rw f

  pub writing_short : L.fits v ≡ true → length area < length (L.written v) → writing L broken v area ≡ record { answer = area_too_short; count = 0; area = area }
  unfolding unwritten writing
  writing_short f h = rw (f, lt-ltb (length area) (length (L.written v)) h)

  pub writing_done :
      L.fits v ≡ true → length (L.written v) ≤ length area
      → writing L broken v area ≡ record { answer = accepted; count = length (L.written v); area = put area 0 (L.written v) }
  unfolding unwritten writing
  writing_done f h = rw (f, le-ltb (length area) (length (L.written v)) h)

  module _ (other : broken ≡ out_of_order → ⊥) where
    -- it answers no 11
    writing_answers : (writing L broken v area).answer ≡ out_of_order → ⊥
    unfolding unwritten writing
    writing_answers = go (L.fits v) (ltb (length area) (length (L.written v)))
      where
        go :
            (f s : Bool)
            → (cond {A = Written} f
            (cond s (unwritten area_too_short area) (record { answer = accepted; count = length (L.written v); area = put area 0 (L.written v) }))
            (unwritten broken area)).answer
            ≡ out_of_order
            → ⊥
        go true true e = omega arith
        go true false e = omega arith
        go false s e = other e

    -- so it leaves no choice: neither of the result nor of the area
    pub one_written :
        (x y : Result ℕ Refusal) (s t : List ℕ) → record { answer = answer_of x; count = result_unwrap_or x 0; area = s } ≡ writing L broken v area
        → record { answer = answer_of y; count = result_unwrap_or y 0; area = t } ≡ writing L broken v area → ◌≡◌ {A = Result ℕ Refusal × List ℕ} (x, s) (y, t)
    one_written x y s t p q =
        let e : ◌≡◌ {A = Written} (record { answer = answer_of x; count = result_unwrap_or x 0; area = s })
        (record { answer = answer_of y; count = result_unwrap_or y 0; area = t }) = p ∙ sym q in
        let n : answer_of x ≡ out_of_order → ⊥ = λ o. writing_answers (sym (ap (λ (w : Written). w.answer) p) ∙ o) in
        let r : x ≡ y = same_result 0 x y n (ap (λ (w : Written). w.answer) e) (ap (λ (w : Written). w.count) e) in
        λ i. (r i, (e i).area)
