-- Laws of the answer that a result is: a refusal's number is never 0, a refusal that is passed on keeps its number, and the answer and the value tell which
-- result it is, where the answer is not 11. Assumes nothing.
use mathlib.Core.Path.{◌≡◌, refl, sym, ap, ◌∙◌}
use mathlib.Core.Bool.{cond}
use Prim.Native.Nat.{ℕ, ◌<◌}
use native.Mathlib.Omega.{arith}
use lib.Dec.{eqb, lit<}
use Rattle.std.specs.Prelude.{⊤, Result, Ok, Err}
use Rattle.std.specs.Result.{IsErrAnd, result_unwrap_or}
use Rattle.std.proofs.lemmas.Result.{err_from_is_err_and}
use Rattle.refusals.specs as refusals
use Rattle.refusals.specs.{accepted, out_of_order}
use Rattle.refusals.specs.Refused.{refusal_number, answer_of}
use Rattle.refusals.specs.declared.Refusal.{Refusal}
use Rattle.refusals.specs.declared.Refusal.TheVariants.{AreaTooShort, RecordNotSound, NotBlank, NotActive, NotPrepared, RackBroken, KeyNotInRack}
use Rattle.refusals.specs.declared.Refusal.TheVariants.{RollOrRackAlone, LedgerExists, NoSuchLedger, OutOfOrder, HeightAtTop, TableFull, LabelZero}
use Rattle.refusals.specs.declared.Refusal.TheVariants.{RollBroken, TooFew, NotAttested, SignatureNotValid, InitialiseNotValid, NotDerived, DigestDiffers}
use Rattle.refusals.specs.declared.Refusal.TheVariants.{ListBroken, StatementNotAsked, NonceDiffers, InputTooLong, ListOfWrongLength, TextTooLong}
use Rattle.refusals.specs.declared.Refusal.TheVariants.{StoreFull, BlockDamaged, NotLeading, BundleTooLarge, RackOfTwo, CompanyFull}

pub number_some : (r : Refusal) → 0 < refusal_number r
number_some AreaTooShort = lit< tt
number_some RecordNotSound = lit< tt
number_some NotBlank = lit< tt
number_some NotActive = lit< tt
number_some NotPrepared = lit< tt
number_some RackBroken = lit< tt
number_some KeyNotInRack = lit< tt
number_some RollOrRackAlone = lit< tt
number_some LedgerExists = lit< tt
number_some NoSuchLedger = lit< tt
number_some (OutOfOrder h) = lit< tt
number_some HeightAtTop = lit< tt
number_some TableFull = lit< tt
number_some LabelZero = lit< tt
number_some RollBroken = lit< tt
number_some TooFew = lit< tt
number_some NotAttested = lit< tt
number_some SignatureNotValid = lit< tt
number_some InitialiseNotValid = lit< tt
number_some NotDerived = lit< tt
number_some DigestDiffers = lit< tt
number_some ListBroken = lit< tt
number_some StatementNotAsked = lit< tt
number_some NonceDiffers = lit< tt
number_some InputTooLong = lit< tt
number_some ListOfWrongLength = lit< tt
number_some TextTooLong = lit< tt
number_some StoreFull = lit< tt
number_some BlockDamaged = lit< tt
number_some NotLeading = lit< tt
number_some BundleTooLarge = lit< tt
number_some RackOfTwo = lit< tt
number_some CompanyFull = lit< tt

pub number_refuses : (r : Refusal) → refusal_number r ≡ accepted → ⊥
number_refuses r e = omega (arith, number_some r)

-- what `?` hands on: `passed_on c.from_residual.result _ c.from_residual.ensures.1`
pub passed_on : {A : Type 0} (q : Result A Refusal) (r : Refusal) → IsErrAnd q (λ y. y ≡ r) → answer_of q ≡ refusal_number r
passed_on q r h = let p = err_from_is_err_and q h in ap answer_of p.1 ∙ ap refusal_number p.2

-- the refusal of a number other than 11
unfoldable refusal_of : ℕ → Refusal
refusal_of n =
    cond (eqb n refusals.area_too_short) AreaTooShort
    (cond (eqb n refusals.record_not_sound) RecordNotSound
    (cond (eqb n refusals.not_blank) NotBlank
    (cond (eqb n refusals.not_active) NotActive
    (cond (eqb n refusals.not_prepared) NotPrepared
    (cond (eqb n refusals.rack_broken) RackBroken
    (cond (eqb n refusals.key_not_in_rack) KeyNotInRack
    (cond (eqb n refusals.roll_or_rack_alone) RollOrRackAlone
    (cond (eqb n refusals.ledger_exists) LedgerExists
    (cond (eqb n refusals.no_such_ledger) NoSuchLedger
    (cond (eqb n refusals.height_at_top) HeightAtTop
    (cond (eqb n refusals.table_full) TableFull
    (cond (eqb n refusals.label_zero) LabelZero
    (cond (eqb n refusals.roll_broken) RollBroken
    (cond (eqb n refusals.too_few) TooFew
    (cond (eqb n refusals.not_attested) NotAttested
    (cond (eqb n refusals.signature_not_valid) SignatureNotValid
    (cond (eqb n refusals.initialise_not_valid) InitialiseNotValid
    (cond (eqb n refusals.not_derived) NotDerived
    (cond (eqb n refusals.digest_differs) DigestDiffers
    (cond (eqb n refusals.list_broken) ListBroken
    (cond (eqb n refusals.statement_not_asked) StatementNotAsked
    (cond (eqb n refusals.nonce_differs) NonceDiffers
    (cond (eqb n refusals.input_too_long) InputTooLong
    (cond (eqb n refusals.list_of_wrong_length) ListOfWrongLength
    (cond (eqb n refusals.text_too_long) TextTooLong
    (cond (eqb n refusals.store_full) StoreFull
    (cond (eqb n refusals.block_damaged) BlockDamaged
    (cond (eqb n refusals.not_leading) NotLeading
    (cond (eqb n refusals.bundle_too_large) BundleTooLarge
    (cond (eqb n refusals.rack_of_two) RackOfTwo
    CompanyFull))))))))))))))))))))))))))))))

of_number : (r : Refusal) → (refusal_number r ≡ out_of_order → ⊥) → refusal_of (refusal_number r) ≡ r
unfolding refusal_of
of_number AreaTooShort n = refl
of_number RecordNotSound n = refl
of_number NotBlank n = refl
of_number NotActive n = refl
of_number NotPrepared n = refl
of_number RackBroken n = refl
of_number KeyNotInRack n = refl
of_number RollOrRackAlone n = refl
of_number LedgerExists n = refl
of_number NoSuchLedger n = refl
of_number (OutOfOrder h) n = absurd (n refl)
of_number HeightAtTop n = refl
of_number TableFull n = refl
of_number LabelZero n = refl
of_number RollBroken n = refl
of_number TooFew n = refl
of_number NotAttested n = refl
of_number SignatureNotValid n = refl
of_number InitialiseNotValid n = refl
of_number NotDerived n = refl
of_number DigestDiffers n = refl
of_number ListBroken n = refl
of_number StatementNotAsked n = refl
of_number NonceDiffers n = refl
of_number InputTooLong n = refl
of_number ListOfWrongLength n = refl
of_number TextTooLong n = refl
of_number StoreFull n = refl
of_number BlockDamaged n = refl
of_number NotLeading n = refl
of_number BundleTooLarge n = refl
of_number RackOfTwo n = refl
of_number CompanyFull n = refl

-- a number other than 11 is that of one refusal
pub same_refusal : (r q : Refusal) → (refusal_number r ≡ out_of_order → ⊥) → refusal_number r ≡ refusal_number q → r ≡ q
same_refusal r q n e = sym (of_number r n) ∙ ap refusal_of e ∙ of_number q (λ o. n (e ∙ o))

-- and an answer other than 11 is, with a value, that of one result
pub same_result :
    {A : Type 0} (d : A) (x y : Result A Refusal) → (answer_of x ≡ out_of_order → ⊥) → answer_of x ≡ answer_of y
    → result_unwrap_or x d ≡ result_unwrap_or y d → x ≡ y
same_result d (Ok v) (Ok w) n e f = λ i. Ok (f i)
same_result d (Ok v) (Err q) n e f = absurd (number_refuses q (sym e))
same_result d (Err r) (Ok w) n e f = absurd (number_refuses r e)
same_result d (Err r) (Err q) n e f = ap Err (same_refusal r q n e)

-- one that has no value is told by its answer alone
pub same_test : (x y : Result ⊤ Refusal) → (answer_of x ≡ out_of_order → ⊥) → answer_of x ≡ answer_of y → x ≡ y
same_test x y n e = same_result tt x y n e refl
