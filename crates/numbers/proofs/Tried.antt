-- The cases of 01's "Numbers to try" that are marked P, under one claim. Assumes nothing.
use mathlib.Core.Path.{◌≡◌, refl, sym, ap, ◌∙◌}
use mathlib.Core.Bool.{true, false, not, cond, ◌||◌}
use mathlib.Core.List.{List, [], ◌∷◌, ◌++◌, append_assoc}
use Prim.Native.Nat.{ℕ, ◌+◌, ◌<◌, ◌≤◌}
use native.Mathlib.Omega.{arith}
use borrow.Author.Tests.{ne_eqb, lt-ltb, le-ltb, eqb-false}
use lib.ListN.{length}
use lib.Dec.{eqb, ltb}
use Rattle.refusals.specs.{accepted, not_active, not_blank, too_few, signature_not_valid, initialise_not_valid, not_derived}
use Rattle.refusals.specs.Order.{◌⇒◌, first}
use Rattle.refusals.proofs.Orders.{numbered, goes_on, refuses, lets_by}
use Rattle.octets.specs.Strings.{all_zero}
use Rattle.octets.specs.Layouts.{holds}
use Rattle.marks.specs.Entries.{marks_tests, pair_marks}
use Rattle.marks.proofs.Refused.{marks-numbered}
use Rattle.rack.specs.Racks.{rack_layout, is_of_two, majority}
use Rattle.rack.proofs.NumbersToTry.{majorities, none_is_broken, sixteen_is_broken, fifteen}
use Rattle.roll.specs.Roll.{Roll}
use Rattle.roll.proofs.NumbersToTry.{blocks_tried}
use Rattle.rows.specs.Digests.{appended}
use Rattle.statement.specs.declared.Kind.TheVariants.{Append}
use Rattle.statement.specs.Contents.{statement_written}
use Rattle.statement.specs.Kinds.{receipt_size, handover_size}
use Rattle.rules.specs.declared.Head.{Head}
use Rattle.rules.specs.Record.{blank, active, sound}
use Rattle.rules.specs.Outcomes.{Lent, refused, given, again, unless, lending, readiness}
use Rattle.rules.specs.Table.{moved}
use Rattle.rules.specs.Rows.{is_absent, row_number, sought, present_tail, present_height, receipt_of}
use Rattle.rules.specs.Initialise.{is_in_rack, initialise_refusal, initialising}
use Rattle.rules.specs.New.{new_refusal, making}
use Rattle.rules.specs.Append.{append_refusal, moved_on, append_statement, appending}
use Rattle.rules.specs.AppendMany.{entries, is_list, append_many_refusal, moved_by_all, last_statement, appending_many}
use Rattle.rules.specs.Finalise.{finalise_size, last_words, handed_over, finalise_refusal, leaving, finalising}
use Rattle.rules.specs.Bundle.{old_count, old_marks, new_count, new_entries}
use Rattle.rules.specs.Derivation.{row_in, grown, roll_of, roll_derived, kept_by_some, derived}
use Rattle.rules.specs.Activate.{rack_size, own_roll, bundle_tests, handover_tests, acting, activating}
use Rattle.rules.proofs.Somes.{each_all}
use Rattle.rules.proofs.Derived.{rows_decide, lacked_by_all as lacked}
use Rattle.rules.proofs.FoundRows.{row_found, row_labelled}
use Rattle.rules.proofs.Firsts.{Ready as Readied, sound_rows}
use Rattle.rules.proofs.Refused.{unless_says}
use Rattle.rules.proofs.Companies.{first_at_127, second_at_128, company_refuses, table_refuses, other_lets_by, only_then}
use Rattle.desk.proofs.NumbersToTry.{listed_twice, one_signer, two_signers}
use Rattle.numbers.specs.Cases.{Ready, Stands, Lacks, own_rows, other_rows, Offered, RestHolds, NumbersToTry}
use Rattle.rules.proofs.Prepared.{lent_by, status_refuses, ready_by, comes_to, has_effect}

append_on_blank : (k : Lent) (label entry : List ℕ) (expected : ℕ) → Ready blank receipt_size k → appending k label entry expected ≡ refused 4 0 k
unfolding appending append_refusal refused
append_on_blank k label entry expected r =
    comes_to _ 4 (present_height k label) k _
    (status_refuses receipt_size k r.room r.sounds active not_active _ (λ e. eqb-false 0 2 refl (sym r.has_status ∙ e))) refl

-- a label that is found is not all zero
module _ (k : Lent) (label : List ℕ) (height : ℕ) (a : Stands k label height) where
  named : all_zero label ≡ false
  named =
      let fit = sound_rows k.head k.table a.ready.sounds in
      row_labelled label (present_tail k label) (present_height k label) (row_found k.head.count k.table label fit a.known).1

  new_of_existing : making k label ≡ refused 9 0 k
  unfolding making new_refusal refused first
  new_of_existing =
      let r = a.ready in
      comes_to _ 9 0 k _
      (ready_by receipt_size k r.room r.sounds active not_active _ r.has_status ∙ rw (named, a.known)) refl

-- a new label: the rows of the companies decide
module _ (k : Lent) (label : List ℕ) where
  can : Lacks k label → Readied receipt_size active k
  can a = record { room = a.ready.room; sounds = a.ready.sounds; acts = a.ready.has_status }

  new_of_full_company : Lacks k label → 31 ≤ own_rows k label → making k label ≡ refused 39 0 k
  unfolding making
  new_of_full_company a many = comes_to _ 39 0 k _ (company_refuses k label (can a) a.labelled a.unknown many) refl

  new_says : (making k label).answer.number ≡ new_refusal k label
  unfolding making
  new_says = unless_says (new_refusal k label) 0 k _ _ _ _

  new_beside_full_company : Lacks k label → own_rows k label ≤ 30 → other_rows k label ≡ 31 → (making k label).answer.number ≡ accepted
  new_beside_full_company a few theirs = new_says ∙ other_lets_by k label (can a) a.labelled a.unknown (omega arith) (omega arith)

  new_of_63 : Lacks k label → own_rows k label ≤ 30 → k.head.count ≡ 63 → making k label ≡ refused 13 0 k
  unfolding making
  new_of_63 a few full = comes_to _ 13 0 k _ (table_refuses k label (can a) a.labelled a.unknown (omega arith) full) refl

  only_of_63 : (making k label).answer.number ≡ 13 → (k.head.count ≡ 63) × (own_rows k label ≤ 30)
  only_of_63 e = let t = only_then k label (sym new_says ∙ e) in (t.0, omega (arith, t.1))

module _ (k : Lent) (label entry : List ℕ) where
  -- an append at an active keeper that has the ledger, by the two tests that are left
  tried :
      (height expected : ℕ) → Stands k label height
      → append_refusal receipt_size k label expected ≡ cond (not (eqb expected (height + 1))) 11 (cond (eqb height 4294967295) 12 0)
  unfolding append_refusal first
  tried height expected a =
      let r = a.ready in
      ready_by receipt_size k r.room r.sounds active not_active _ r.has_status ∙ rw (a.known, a.height_is)

  one_too_high : Stands k label 0 → appending k label entry 2 ≡ refused 11 0 k
  unfolding appending refused
  one_too_high a = comes_to _ 11 (present_height k label) k _ (tried 0 2 a) refl ∙ rw a.height_is

  above_the_top : Stands k label 4294967295 → appending k label entry 4294967296 ≡ refused 12 0 k
  unfolding appending refused
  above_the_top a = comes_to _ 12 (present_height k label) k _ (tried 4294967295 4294967296 a) refl

  far_below : Stands k label 4294967295 → appending k label entry 5 ≡ refused 11 4294967295 k
  unfolding appending refused
  far_below a = comes_to _ 11 (present_height k label) k _ (tried 4294967295 5 a) refl ∙ rw a.height_is

  first_entry :
      Stands k label 0
      → appending k label entry 1
      ≡ given (statement_written (receipt_of k.head (Append 1) label (appended (present_tail k label) entry))) k.head
      (moved k.table (row_number (sought k label)) (appended (present_tail k label) entry) 1) k.area
  unfolding appending append_statement moved_on
  first_entry a = has_effect _ (present_height k label) k _ (tried 0 1 a) ∙ rw a.height_is

-- an append of many at an active keeper, by the tests that are left
module _ (k : Lent) (label list : List ℕ) (expected : ℕ) where
  in_a_short_area : length k.area ≡ 120 → appending_many k label list expected ≡ refused 1 0 k
  unfolding appending_many append_many_refusal readiness lending first refused
  in_a_short_area l = comes_to _ 1 (present_height k label) k _ (rw (lt-ltb (length k.area) receipt_size (omega arith))) refl

  unlisted : Ready active receipt_size k → is_list list ≡ false → appending_many k label list expected ≡ refused 32 0 k
  unfolding appending_many append_many_refusal first refused
  unlisted r l =
      comes_to _ 32 (present_height k label) k _
      (ready_by receipt_size k r.room r.sounds active not_active _ r.has_status ∙ rw l) refl

  not_there : Ready active receipt_size k → is_list list ≡ true → is_absent (sought k label) ≡ true → appending_many k label list expected ≡ refused 10 0 k
  unfolding appending_many append_many_refusal first refused
  not_there r l a =
      comes_to _ 10 (present_height k label) k _
      (ready_by receipt_size k r.room r.sounds active not_active _ r.has_status ∙ rw (l, a)) refl

  tried_many :
      (height : ℕ) → Stands k label height → is_list list ≡ true
      → append_many_refusal receipt_size k label list expected
      ≡ cond (not (eqb expected (height + 1))) 11 (cond (ltb 4294967295 (height + entries list)) 12 0)
  unfolding append_many_refusal first
  tried_many height a l =
      let r = a.ready in
      ready_by receipt_size k r.room r.sounds active not_active _ r.has_status ∙ rw (l, a.known, a.height_is)

-- lists of none, of 33 and of 31 bytes
of_none : is_list [] ≡ false
unfolding is_list
of_none = refl

of_33 : (list : List ℕ) → length list ≡ 1056 → is_list list ≡ false
unfolding is_list
of_33 list l = rw l

of_31_bytes : (list : List ℕ) → length list ≡ 31 → is_list list ≡ false
unfolding is_list
of_31_bytes list l = rw l

module _ (k : Lent) (label list : List ℕ) where
  too_high : Stands k label 7 → is_list list ≡ true → appending_many k label list 9 ≡ refused 11 7 k
  unfolding appending_many refused
  too_high a l = comes_to _ 11 (present_height k label) k _ (tried_many k label list 9 7 a l) refl ∙ rw a.height_is

  passes_the_top : Stands k label 4294967293 → length list ≡ 96 → appending_many k label list 4294967294 ≡ refused 12 0 k
  unfolding appending_many is_list refused
  passes_the_top a l =
      comes_to _ 12 (present_height k label) k _ (tried_many k label list 4294967294 4294967293 a (rw l) ∙ rw l) refl

  reaches_the_top :
      Stands k label 4294967293 → length list ≡ 64
      → appending_many k label list 4294967294
      ≡ given (statement_written (receipt_of k.head (Append 4294967295) label (grown (present_tail k label) list 2))) k.head
      (moved k.table (row_number (sought k label)) (grown (present_tail k label) list 2) 4294967295) k.area
  unfolding appending_many is_list last_statement moved_by_all
  reaches_the_top a l =
      has_effect _ (present_height k label) k _ (tried_many k label list 4294967294 4294967293 a (rw l) ∙ rw l) ∙ rw (a.height_is, l)

-- a record stays sound when its keeper hands over
still_sound : (h : Head) (table next : List ℕ) → sound h table ≡ true → sound (handed_over h next) table ≡ true
unfolding sound
still_sound h table next e = sound_rows h table e

-- of the two calls the second has the first one's record, and other arguments
second_finalise :
    (k : Lent) (next other area : List ℕ) → Ready active finalise_size k → holds rack_layout next ≡ true → is_of_two next ≡ false
    → finalise_size ≤ length area
    → (finalising k next ≡ given (last_words (handed_over k.head next) k.table) (handed_over k.head next) k.table k.area)
    × (finalising (record { head = handed_over k.head next; table = k.table; area = area }) other
    ≡ again (last_words (handed_over k.head next) k.table) (record { head = handed_over k.head next; table = k.table; area = area }))
unfolding finalising leaving finalise_refusal first unless
second_finalise k next other area r h more room =
    let k' : Lent = record { head = handed_over k.head next; table = k.table; area = area } in (
      rw (lent_by finalise_size k r.room r.sounds, r.has_status, h, more),
      rw (lent_by finalise_size k' room (still_sound k.head k.table next r.sounds)),
    )

roll_alone :
    (k : Lent) (identity roll own : List ℕ) → Ready blank handover_size k → holds rack_layout own ≡ true → is_of_two own ≡ false
    → is_in_rack k.head.key own ≡ true → 1 ≤ length roll → initialising k identity roll [] own ≡ refused 8 0 k
unfolding initialising initialise_refusal first
roll_alone k identity roll own r h more member some =
    comes_to _ 8 0 k _
    (ready_by handover_size k r.room r.sounds blank not_blank _ r.has_status ∙ rw (h, more, member, ne_eqb (length roll) 0 (omega arith))) refl

own_rack_of_two :
    (k : Lent) (identity roll previous own : List ℕ) → Ready blank handover_size k → holds rack_layout own ≡ true → is_of_two own ≡ true
    → initialising k identity roll previous own ≡ refused 38 0 k
unfolding initialising initialise_refusal first
own_rack_of_two k identity roll previous own r h two =
    comes_to _ 38 0 k _ (ready_by handover_size k r.room r.sounds blank not_blank _ r.has_status ∙ rw (h, two)) refl

next_rack_of_two :
    (k : Lent) (next : List ℕ) → Ready active finalise_size k → holds rack_layout next ≡ true → is_of_two next ≡ true → finalising k next ≡ refused 38 0 k
unfolding finalising leaving finalise_refusal first unless
next_rack_of_two k next r h two = rw (lent_by finalise_size k r.room r.sounds, r.has_status, h, two)

-- what is asked beside another roll that has the row derives the roll
rest_derives : (ours : Roll) (s : List ℕ) → RestHolds ours s → derived ours s ≡ true
unfolding roll_derived
rest_derives ours s rest =
    rows_decide ours s (each_all (roll_derived ours s) (old_count s) (λ i h. rw (rest.no_others i h) (each_all _ ours.count (λ r l. rest.leads i r h l))))
    ∙ each_all (kept_by_some ours s) ours.count rest.kept

module _ (k : Lent) (previous own s : List ℕ) (o : Offered k previous own s) where
  enough : (ltb (old_count s) (majority (rack_size previous)) || ltb (new_count s) (majority (rack_size own))) ≡ false
  enough =
      rw (le-ltb (old_count s) (majority (rack_size previous)) o.old_many, le-ltb (new_count s) (majority (rack_size own)) o.new_many)

  -- up to the derivation nothing refuses
  marked : first (handover_tests k previous own s) ≡ first ((not (derived (own_roll k) s) ⇒ not_derived) ∷ [])
  unfolding handover_tests
  marked =
      let olds = marks_tests signature_not_valid (old_marks s) (old_count s) in
      let news = marks_tests initialise_not_valid (pair_marks (new_entries s)) (new_count s) in
      let last = (not (derived (own_roll k) s) ⇒ not_derived) ∷ [] in
      lets_by _ too_few _ enough ∙ ap first (append_assoc olds news last)
      ∙ goes_on olds (news ++ last) accepted (marks-numbered signature_not_valid (omega arith) (old_marks s) (old_count s)) (sym o.old_marked) refl
      ∙ goes_on news last accepted (marks-numbered initialise_not_valid (omega arith) (pair_marks (new_entries s)) (new_count s)) (sym o.new_marked) refl

  decided : first (bundle_tests 0 k previous own s ++ handover_tests k previous own s) ≡ first ((not (derived (own_roll k) s) ⇒ not_derived) ∷ [])
  unfolding bundle_tests readiness lending numbered
  decided = goes_on (bundle_tests 0 k previous own s) (handover_tests k previous own s) accepted refl (sym o.passes) refl ∙ marked

  lacking_one : RestHolds (own_roll k) s → activating k previous own s ≡ given [] (acting k.head) k.table k.area
  unfolding activating first
  lacking_one rest = has_effect _ 0 k _ (decided ∙ lets_by _ not_derived [] (ap not (rest_derives (own_roll k) s rest)))

  lacked_by_all :
      (r : ℕ) → r < k.head.count → ((i : ℕ) → i < old_count s → is_absent (row_in (roll_of s i) (own_roll k) r) ≡ true)
      → activating k previous own s ≡ refused 20 0 k
  unfolding activating
  lacked_by_all r l h = comes_to _ 20 0 k _ (decided ∙ refuses _ not_derived [] (ap not (lacked (own_roll k) s r l h))) refl

pub tried_all : NumbersToTry
tried_all =
    record {
      majorities = majorities;
      blocks_of = blocks_tried;
      rack_of_none = none_is_broken;
      rack_of_sixteen = sixteen_is_broken;
      rack_of_fifteen = fifteen;
      append_on_blank = append_on_blank;
      new_of_existing = new_of_existing;
      new_of_existing_of_63 = λ k label height a full. new_of_existing k label height a;
      one_too_high = one_too_high;
      first_entry = first_entry;
      above_the_top = above_the_top;
      far_below = far_below;
      second_finalise = second_finalise;
      same_signer_twice = λ q s m n a. listed_twice q s a.rack_holds a.of_three m n;
      one_signer = λ q s p a. one_signer q s a.about.rack_holds a.about.of_three a.asked_for a.nonce p;
      two_signers = λ q s p r a. two_signers q s a.about.rack_holds a.about.of_three a.asked_for a.nonce p r;
      roll_alone = roll_alone;
      lacking_one = λ k previous own s i j r o h h' l lacks has rest. lacking_one k previous own s o rest;
      lacked_by_all = λ k previous own s r o. lacked_by_all k previous own s o r;
      many_in_a_short_area = in_a_short_area;
      many_of_none = λ k label expected r. unlisted k label [] expected r of_none;
      many_of_33 = λ k label list expected r l. unlisted k label list expected r (of_33 list l);
      many_of_31_bytes = λ k label list expected r l. unlisted k label list expected r (of_31_bytes list l);
      many_of_no_ledger = not_there;
      many_too_high = too_high;
      last_passes_the_top = passes_the_top;
      last_reaches_the_top = reaches_the_top;
      own_rack_of_two = own_rack_of_two;
      next_rack_of_two = next_rack_of_two;
      border = λ label. (first_at_127 label, second_at_128 label);
      new_of_full_company = new_of_full_company;
      new_of_full_company_of_63 = λ k label a many full. new_of_full_company k label a many;
      new_beside_full_company = new_beside_full_company;
      new_of_63 = new_of_63;
      only_of_63 = only_of_63;
    }
