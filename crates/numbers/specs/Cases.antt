-- 01, "Numbers to try": the cases "Marked P: proved for the rules themselves, gathered in a single list under one claim", in the order of 01, and those that
-- 02 adds.
use Rattle.std.specs.Prelude.{◌≡◌, true, false, not, List, [], ◌∷◌, ℕ, ◌*◌, ◌<◌, ◌≤◌, length, get_or}
use Rattle.refusals.specs.{accepted, signature_not_valid, initialise_not_valid}
use Rattle.refusals.specs.Order.{first}
use Rattle.octets.specs.Strings.{all_zero}
use Rattle.octets.specs.Layouts.{holds}
use Rattle.rack.specs.Racks.{rack_layout, rack_cut, is_of_two, majority}
use Rattle.rack.specs.Promise.{reading}
use Rattle.rows.specs.Digests.{appended}
use Rattle.roll.specs.Blocks.{blocks}
use Rattle.roll.specs.Roll.{Roll}
use Rattle.statement.specs.declared.Kind.TheVariants.{Append}
use Rattle.statement.specs.Kinds.{receipt_size, handover_size}
use Rattle.statement.specs.Contents.{statement_written}
use Rattle.rules.specs.Record.{blank, active, sound}
use Rattle.rules.specs.Outcomes.{Lent, refused, given, again}
use Rattle.rules.specs.Table.{moved}
use Rattle.rules.specs.Rows.{is_absent, row_number, sought, present_tail, present_height, receipt_of}
use Rattle.rules.specs.Companies.{company, company_rows}
use Rattle.rules.specs.Initialise.{is_in_rack, initialising}
use Rattle.rules.specs.New.{making}
use Rattle.rules.specs.Append.{appending}
use Rattle.rules.specs.AppendMany.{is_list, appending_many}
use Rattle.rules.specs.Finalise.{finalise_size, last_words, handed_over, finalising}
use Rattle.rules.specs.Bundle.{old_count, old_marks, new_count, new_entries, added, digests, list_of}
use Rattle.rules.specs.Derivation.{row_in, no_more, grown, row_derived, roll_of, kept_by_some}
use Rattle.rules.specs.Activate.{rack_size, own_roll, bundle_tests, acting, activating}
use Rattle.marks.specs.Entries.{marks_tests, pair_marks}
use Rattle.desk.specs.Verdict.{Question, is_asked_for, has_other_nonce, nothing_shown, shown, judging}

-- a sound record of a status, lent with an area of so many bytes
pub record Ready (status size : ℕ) (k : Lent) : Type 0 where
  pub room : size ≤ length k.area
  pub sounds : sound k.head k.table ≡ true
  pub has_status : k.head.status ≡ status

-- an active keeper that has a ledger at a height
pub record Stands (k : Lent) (label : List ℕ) (height : ℕ) : Type 0 where
  pub ready : Ready active receipt_size k
  pub known : is_absent (sought k label) ≡ false
  pub height_is : present_height k label ≡ height

-- an active keeper that lacks a ledger of a label that a ledger may have
pub record Lacks (k : Lent) (label : List ℕ) : Type 0 where
  pub ready : Ready active receipt_size k
  pub labelled : all_zero label ≡ false
  pub unknown : is_absent (sought k label) ≡ true

-- a keeper's rows of the label's company, and of the other
abbrev pub own_rows : Lent → List ℕ → ℕ
own_rows k label = company_rows k.head.count k.table (company label)

abbrev pub other_rows : Lent → List ℕ → ℕ
other_rows k label = company_rows k.head.count k.table (not (company label))

-- a question about a rack of three
pub record OfThree (q : Question) : Type 0 where
  pub rack_holds : holds rack_layout q.rack ≡ true
  pub of_three : (rack_cut q.rack).count ≡ 3

-- one whose statement is the one asked for
pub record Asked (q : Question) (s : List ℕ) : Type 0 where
  pub about : OfThree q
  pub asked_for : is_asked_for q s ≡ true
  pub nonce : has_other_nonce q s ≡ false

-- a bundle that passes every test before the derivation
pub record Offered (k : Lent) (previous own s : List ℕ) : Type 0 where
  pub passes : first (bundle_tests 0 k previous own s) ≡ accepted
  pub old_many : majority (rack_size previous) ≤ old_count s
  pub new_many : majority (rack_size own) ≤ new_count s
  pub old_marked : first (marks_tests signature_not_valid (old_marks s) (old_count s)) ≡ accepted
  pub new_marked : first (marks_tests initialise_not_valid (pair_marks (new_entries s)) (new_count s)) ≡ accepted

-- "the rest of the derivation": no old roll has other labels, each leads to our rows by what is listed for it, and each row is kept by some
pub record RestHolds (ours : Roll) (s : List ℕ) : Type 0 where
  pub no_others : (i : ℕ) → i < old_count s → no_more ours (roll_of s i) ≡ true
  pub leads :
      (i r : ℕ) → i < old_count s → r < ours.count
      → row_derived ours (roll_of s i) r (digests s (list_of ours.count i r)) (added s (list_of ours.count i r)) ≡ true
  pub kept : (r : ℕ) → r < ours.count → kept_by_some ours s r ≡ true

pub record NumbersToTry : Type 0 where
  -- "majorities of 1, 2, 3, 4, 15: 1, 2, 2, 3, 8"
  pub majorities : (majority 1 ≡ 1) × (majority 2 ≡ 2) × (majority 3 ≡ 2) × (majority 4 ≡ 3) × (majority 15 ≡ 8)
  -- "blocks for 0, 9, 10, 63 rows: 1, 1, 2, 7"
  pub blocks_of : (blocks 0 ≡ 1) × (blocks 9 ≡ 1) × (blocks 10 ≡ 2) × (blocks 63 ≡ 7)
  -- "a rack with n = 0 or 16: 6. A rack of 15 has 481 bytes."
  pub rack_of_none : (s : List ℕ) (keys : List (List ℕ)) → reading (0 ∷ s) keys ≡ record { answer = 6; count = 0; keys = keys }
  pub rack_of_sixteen : (s : List ℕ) (keys : List (List ℕ)) → reading (16 ∷ s) keys ≡ record { answer = 6; count = 0; keys = keys }
  pub rack_of_fifteen : (s : List ℕ) → holds rack_layout s ≡ true → (rack_cut s).count ≡ 15 → length s ≡ 481
  -- "append on a blank keeper: 4"
  pub append_on_blank : (k : Lent) (label entry : List ℕ) (expected : ℕ) → Ready blank receipt_size k → appending k label entry expected ≡ refused 4 0 k
  -- "new of an existing label: 9, also with 63 rows"; since M-108 of 02 a keeper has 63 only by an earlier roll
  pub new_of_existing : (k : Lent) (label : List ℕ) (height : ℕ) → Stands k label height → making k label ≡ refused 9 0 k
  pub new_of_existing_of_63 : (k : Lent) (label : List ℕ) (height : ℕ) → Stands k label height → k.head.count ≡ 63 → making k label ≡ refused 9 0 k
  -- "height 0, expected 2: 11 with 0; expected 1: accepted at height 1"
  pub one_too_high : (k : Lent) (label entry : List ℕ) → Stands k label 0 → appending k label entry 2 ≡ refused 11 0 k
  pub first_entry :
      (k : Lent) (label entry : List ℕ) → Stands k label 0
      → appending k label entry 1
      ≡ given (statement_written (receipt_of k.head (Append 1) label (appended (present_tail k label) entry))) k.head
      (moved k.table (row_number (sought k label)) (appended (present_tail k label) entry) 1) k.area
  -- "height 4,294,967,295: expected 4,294,967,296 gives 12, expected 5 gives 11"
  pub above_the_top : (k : Lent) (label entry : List ℕ) → Stands k label 4294967295 → appending k label entry 4294967296 ≡ refused 12 0 k
  pub far_below : (k : Lent) (label entry : List ℕ) → Stands k label 4294967295 → appending k label entry 5 ≡ refused 11 4294967295 k
  -- "second finalise naming another rack: the first statement again"
  pub second_finalise :
      (k : Lent) (next other area : List ℕ) → Ready active finalise_size k → holds rack_layout next ≡ true → is_of_two next ≡ false
      → finalise_size ≤ length area
      → (finalising k next ≡ given (last_words (handed_over k.head next) k.table) (handed_over k.head next) k.table k.area)
      × (finalising (record { head = handed_over k.head next; table = k.table; area = area }) other
      ≡ again (last_words (handed_over k.head next) k.table) (record { head = handed_over k.head next; table = k.table; area = area }))
  -- "rack of 3, signer positions 1, 1: 22; one valid signer: 16; two: accepted"; the first whatever the statement and the marks
  pub same_signer_twice : (q : Question) (s : List ℕ) (m n : ℕ) → OfThree q → judging q s (1 ∷ m ∷ 1 ∷ n ∷ []) ≡ nothing_shown 22
  pub one_signer : (q : Question) (s : List ℕ) (p : ℕ) → Asked q s → p < 3 → judging q s (p ∷ 3 ∷ []) ≡ nothing_shown 16
  pub two_signers : (q : Question) (s : List ℕ) (p r : ℕ) → Asked q s → p < r → r < 3 → judging q s (p ∷ 3 ∷ r ∷ 3 ∷ []) ≡ shown s
  -- "roll without previous rack: 8"
  pub roll_alone :
      (k : Lent) (identity roll own : List ℕ) → Ready blank handover_size k → holds rack_layout own ≡ true → is_of_two own ≡ false
      → is_in_rack k.head.key own ≡ true → 1 ≤ length roll → initialising k identity roll [] own ≡ refused 8 0 k
  -- "an old roll lacking one of our ledgers: 20"; since M-101 of 02 "accepted when another old roll has it, otherwise 20"
  pub lacking_one :
      (k : Lent) (previous own s : List ℕ) (i j r : ℕ) → Offered k previous own s → i < old_count s → j < old_count s → r < k.head.count
      → is_absent (row_in (roll_of s i) (own_roll k) r) ≡ true → is_absent (row_in (roll_of s j) (own_roll k) r) ≡ false → RestHolds (own_roll k) s
      → activating k previous own s ≡ given [] (acting k.head) k.table k.area
  pub lacked_by_all :
      (k : Lent) (previous own s : List ℕ) (r : ℕ) → Offered k previous own s → r < k.head.count
      → ((i : ℕ) → i < old_count s → is_absent (row_in (roll_of s i) (own_roll k) r) ≡ true) → activating k previous own s ≡ refused 20 0 k
  -- 02, M-100: "32 for a list of 0 or more than 32, after 4; 12 if any entry would pass the top; otherwise append's order": an area one byte short; an empty
  -- list, one of 33, one of 31 bytes, whatever the label; a ledger that is not there; another height; the top passed by the last entry alone
  pub many_in_a_short_area : (k : Lent) (label list : List ℕ) (expected : ℕ) → length k.area ≡ 120 → appending_many k label list expected ≡ refused 1 0 k
  pub many_of_none : (k : Lent) (label : List ℕ) (expected : ℕ) → Ready active receipt_size k → appending_many k label [] expected ≡ refused 32 0 k
  pub many_of_33 :
      (k : Lent) (label list : List ℕ) (expected : ℕ) → Ready active receipt_size k → length list ≡ 33 * 32 → appending_many k label list expected ≡ refused 32 0 k
  pub many_of_31_bytes :
      (k : Lent) (label list : List ℕ) (expected : ℕ) → Ready active receipt_size k → length list ≡ 31 → appending_many k label list expected ≡ refused 32 0 k
  pub many_of_no_ledger :
      (k : Lent) (label list : List ℕ) (expected : ℕ) → Ready active receipt_size k → is_list list ≡ true → is_absent (sought k label) ≡ true
      → appending_many k label list expected ≡ refused 10 0 k
  pub many_too_high : (k : Lent) (label list : List ℕ) → Stands k label 7 → is_list list ≡ true → appending_many k label list 9 ≡ refused 11 7 k
  pub last_passes_the_top :
      (k : Lent) (label list : List ℕ) → Stands k label 4294967293 → length list ≡ 3 * 32 → appending_many k label list 4294967294 ≡ refused 12 0 k
  pub last_reaches_the_top :
      (k : Lent) (label list : List ℕ) → Stands k label 4294967293 → length list ≡ 2 * 32
      → appending_many k label list 4294967294
      ≡ given (statement_written (receipt_of k.head (Append 4294967295) label (grown (present_tail k label) list 2))) k.head
      (moved k.table (row_number (sought k label)) (grown (present_tail k label) list 2) 4294967295) k.area
  -- 02, M-107: "38 directly after 6 for the own rack in Initialise and for the next rack in Finalise": before 7 and 8, founding too
  pub own_rack_of_two :
      (k : Lent) (identity roll previous own : List ℕ) → Ready blank handover_size k → holds rack_layout own ≡ true → is_of_two own ≡ true
      → initialising k identity roll previous own ≡ refused 38 0 k
  pub next_rack_of_two :
      (k : Lent) (next : List ℕ) → Ready active finalise_size k → holds rack_layout next ≡ true → is_of_two next ≡ true → finalising k next ≡ refused 38 0 k
  -- 02, M-108: "Labels whose first byte is below 128 belong to the first, the others to the second"
  pub border : (label : List ℕ) → (get_or label 0 0 ≡ 127 → company label ≡ true) × (get_or label 0 0 ≡ 128 → company label ≡ false)
  -- "39 in New after 9 and before 13": a company with 31 rows, or by an earlier roll with more, also with 63 rows in the table; the other one beside it,
  -- also for its last row
  pub new_of_full_company : (k : Lent) (label : List ℕ) → Lacks k label → 31 ≤ own_rows k label → making k label ≡ refused 39 0 k
  pub new_of_full_company_of_63 :
      (k : Lent) (label : List ℕ) → Lacks k label → 31 ≤ own_rows k label → k.head.count ≡ 63 → making k label ≡ refused 39 0 k
  pub new_beside_full_company :
      (k : Lent) (label : List ℕ) → Lacks k label → own_rows k label ≤ 30 → other_rows k label ≡ 31 → (making k label).answer.number ≡ accepted
  -- "Only then can 63 rows .. and 13 still be met": where the asking company has at most 30 of them, and nowhere else
  pub new_of_63 : (k : Lent) (label : List ℕ) → Lacks k label → own_rows k label ≤ 30 → k.head.count ≡ 63 → making k label ≡ refused 13 0 k
  pub only_of_63 : (k : Lent) (label : List ℕ) → (making k label).answer.number ≡ 13 → (k.head.count ≡ 63) × (own_rows k label ≤ 30)
