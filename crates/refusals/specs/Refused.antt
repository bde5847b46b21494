-- A refusal's number and height, and the answer that a result is.
use Rattle.std.specs.Prelude.{ℕ, Result, Ok, Err}
use Rattle.refusals.specs as refusals
use Rattle.refusals.specs.declared.Refusal.{Refusal}
use Rattle.refusals.specs.declared.Refusal.TheVariants.{
  AreaTooShort,
  RecordNotSound,
  NotBlank,
  NotActive,
  NotPrepared,
  RackBroken,
  KeyNotInRack,
  RollOrRackAlone,
  LedgerExists,
  NoSuchLedger,
  OutOfOrder,
  HeightAtTop,
  TableFull,
  LabelZero,
  RollBroken,
  TooFew,
  NotAttested,
  SignatureNotValid,
  InitialiseNotValid,
  NotDerived,
  DigestDiffers,
  ListBroken,
  StatementNotAsked,
  NonceDiffers,
  InputTooLong,
  ListOfWrongLength,
  TextTooLong,
  StoreFull,
  BlockDamaged,
  NotLeading,
  BundleTooLarge,
  RackOfTwo,
  CompanyFull,
}

-- the number of a refusal
abbrev pub refusal_number : Refusal → ℕ
refusal_number AreaTooShort = refusals.area_too_short
refusal_number RecordNotSound = refusals.record_not_sound
refusal_number NotBlank = refusals.not_blank
refusal_number NotActive = refusals.not_active
refusal_number NotPrepared = refusals.not_prepared
refusal_number RackBroken = refusals.rack_broken
refusal_number KeyNotInRack = refusals.key_not_in_rack
refusal_number RollOrRackAlone = refusals.roll_or_rack_alone
refusal_number LedgerExists = refusals.ledger_exists
refusal_number NoSuchLedger = refusals.no_such_ledger
refusal_number (OutOfOrder h) = refusals.out_of_order
refusal_number HeightAtTop = refusals.height_at_top
refusal_number TableFull = refusals.table_full
refusal_number LabelZero = refusals.label_zero
refusal_number RollBroken = refusals.roll_broken
refusal_number TooFew = refusals.too_few
refusal_number NotAttested = refusals.not_attested
refusal_number SignatureNotValid = refusals.signature_not_valid
refusal_number InitialiseNotValid = refusals.initialise_not_valid
refusal_number NotDerived = refusals.not_derived
refusal_number DigestDiffers = refusals.digest_differs
refusal_number ListBroken = refusals.list_broken
refusal_number StatementNotAsked = refusals.statement_not_asked
refusal_number NonceDiffers = refusals.nonce_differs
refusal_number InputTooLong = refusals.input_too_long
refusal_number ListOfWrongLength = refusals.list_of_wrong_length
refusal_number TextTooLong = refusals.text_too_long
refusal_number StoreFull = refusals.store_full
refusal_number BlockDamaged = refusals.block_damaged
refusal_number NotLeading = refusals.not_leading
refusal_number BundleTooLarge = refusals.bundle_too_large
refusal_number RackOfTwo = refusals.rack_of_two
refusal_number CompanyFull = refusals.company_full

-- "with 11 the present height"; of another refusal 0
abbrev pub refusal_height : Refusal → ℕ
refusal_height AreaTooShort = 0
refusal_height RecordNotSound = 0
refusal_height NotBlank = 0
refusal_height NotActive = 0
refusal_height NotPrepared = 0
refusal_height RackBroken = 0
refusal_height KeyNotInRack = 0
refusal_height RollOrRackAlone = 0
refusal_height LedgerExists = 0
refusal_height NoSuchLedger = 0
refusal_height (OutOfOrder h) = h
refusal_height HeightAtTop = 0
refusal_height TableFull = 0
refusal_height LabelZero = 0
refusal_height RollBroken = 0
refusal_height TooFew = 0
refusal_height NotAttested = 0
refusal_height SignatureNotValid = 0
refusal_height InitialiseNotValid = 0
refusal_height NotDerived = 0
refusal_height DigestDiffers = 0
refusal_height ListBroken = 0
refusal_height StatementNotAsked = 0
refusal_height NonceDiffers = 0
refusal_height InputTooLong = 0
refusal_height ListOfWrongLength = 0
refusal_height TextTooLong = 0
refusal_height StoreFull = 0
refusal_height BlockDamaged = 0
refusal_height NotLeading = 0
refusal_height BundleTooLarge = 0
refusal_height RackOfTwo = 0
refusal_height CompanyFull = 0

-- the answer that a result is: 0, or the number of its refusal
abbrev pub answer_of : {A : Type 0} → Result A Refusal → ℕ
answer_of (Ok v) = refusals.accepted
answer_of (Err r) = refusal_number r
