-- What Activate asks of the bundle: its layout, the rolls in it, that rack B's roll is derived from them, and what its marks speak of. Assumes nothing.
use mathlib.Core.Path.{◌≡◌, refl, ap, ◌∙◌}
use mathlib.Core.Bool.{Bool, true, false, not, ◌&&◌, ◌||◌}
use mathlib.Core.List.{List, [], ◌∷◌, ◌++◌}
use Prim.Native.Nat.{ℕ, ◌+◌}
use lib.Dec.{eqb, ltb}
use Rattle.octets.specs.Numbers.{number_of}
use Rattle.octets.specs.Strings.{same}
use Rattle.octets.specs.Layouts.{holds}
use Rattle.octets.proofs.RoundTrips.{same_refl}
use Rattle.rack.specs.Racks.{majority, rack_string}
use Rattle.marks.specs.Entries.{goes_up, entry_fits, entries_fit, mark_tests, marks_tests}
use Rattle.std.specs.Prelude.{Result, Ok}
use Rattle.rows.specs.Row.{tail_of, height_of}
use Rattle.rows.specs.Table.{each}
use Rattle.rows.specs.Search.{find}
use Rattle.rows.specs.Digests.{roll_string, roll_digest}
use Rattle.roll.specs.Roll.{Roll, roll_layout}
use Rattle.statement.specs.Cut.{no_digest}
use Rattle.rules.specs.Record.{sound}
use Rattle.rules.specs.Outcomes.{lending, readiness}
use Rattle.rules.specs.Rows.{is_absent, row_number}
use Rattle.rules.specs.Finalise.{finalise_statement}
use Rattle.rules.specs.Bundle.{old_count, old_at, old_roll, new_at, new_count, new_entries}
use Rattle.rules.specs.Bundle.{two_byte, list_at, added, digests, list_of, blocks_fit, added_fits, bundle_fits}
use Rattle.rules.specs.Derivation.{some, row_in, no_more, grown as grown-by, counted_height, counted_tail, row_derived, roll_of}
use Rattle.rules.specs.Derivation.{roll_derived, has_row, had_elsewhere, kept_by_some, derived}
use Rattle.rules.specs.Activate.{racks_differ, bundle_tests, handover_tests, activating}
use Rattle.rules.specs.Check.{old_statement}
use Rattle.safety.specs.Calls.{lent, outcome_of}
use Rattle.safety.specs.Histories.{listed}
use Rattle.safety.specs.Chip.{old_claim, new_claim, claims_by}
use Rattle.safety.specs.Hashed.{old_string, hashed_by}
use Rattle.worked.proofs.Strings.{key, rack_A, rack_B, entry, new_tail, digest_A, digest_B, young_row, grown_row, grown_table}
use Rattle.worked.proofs.Strings.{unchecked, young_block, grown_block}
use Rattle.worked.proofs.Digests.{tail_grows}
use Rattle.worked.proofs.Racks.{known_A, known_B}
use Rattle.worked.proofs.Rolls.{Page, young, grown, roll_on, Kept, young_kept, grown_kept, block-cut, block-holds, roll_digest_is}
use Rattle.worked.proofs.Passing.{LetsBy, end, also, lets_all, lets_both, takes_effect}
use Rattle.worked.proofs.Goings.{Gives, claim}
use Rattle.worked.proofs.Story.{prepared, active, parting, entering, bundle, activates}
use Rattle.worked.proofs.Steps.{parting_said, entering_said}

-- opens, with its own name, the bundle and all that it is taken apart by
unfoldable parts : ℕ
unfolding bundle young_block grown_block unchecked young_row grown_row new_tail number_of each goes_up entry_fits entries_fit
    old_at old_roll new_at new_entries two_byte list_at digests blocks_fit added_fits bundle_fits
parts = 0

bundle_fits_so : bundle_fits 3 3 1 bundle ≡ true
unfolding parts
bundle_fits_so = refl

two_old : old_count bundle ≡ 2
unfolding parts
two_old = refl

two_new : new_count bundle ≡ 2
unfolding parts
two_new = refl

first_roll : old_roll bundle 0 ≡ grown_block
unfolding parts
first_roll = refl

third_roll : old_roll bundle 1 ≡ young_block
unfolding parts
third_roll = refl

-- the first keeper adds no entry digest, the third one
none_added : added bundle 0 ≡ 0
unfolding parts
none_added = refl

one_added : added bundle 1 ≡ 1
unfolding parts
one_added = refl

entry_added : digests bundle 1 ≡ entry
unfolding parts
entry_added = refl

-- tests of each number below 1 and below 2
each_one : (test : ℕ → Bool) → test 0 ≡ true → each test 1 ≡ true
unfolding each
each_one test p = p

each_two : (test : ℕ → Bool) → test 0 ≡ true → test 1 ≡ true → each test 2 ≡ true
unfolding each
each_two test p q = λ i. p i && q i

some_first : (test : ℕ → Bool) → test 0 ≡ true → some test 2 ≡ true
unfolding some
some_first test p = λ i. p i || test 1

-- an old entry's roll, where its block is a page's
module _ {p : Page} (k : Kept p) (i : ℕ) (e : old_roll bundle i ≡ p.block) where
  cut_there : roll_of bundle i ≡ roll_on p
  cut_there = ap roll_layout.cut e ∙ block-cut k

  holds_there : holds roll_layout (old_roll bundle i) ≡ true
  holds_there = ap (holds roll_layout) e ∙ block-holds k

  string_there : old_string bundle i ≡ p.string
  unfolding old_string
  string_there = (λ j. roll_string (cut_there j).count (cut_there j).rows) ∙ k.string_is

  old_speaks : (who : List ℕ) → old_statement (prepared who).head bundle i ≡ parting p
  unfolding old_statement
  old_speaks who =
      (λ j. finalise_statement digest_A digest_A digest_B (roll_digest (cut_there j).count (cut_there j).rows))
      ∙ (λ j. finalise_statement digest_A digest_A digest_B (roll_digest_is k j))
      ∙ parting_said p

-- the row of a page's roll grows into that of rack B's
module _ {p : Page} (k : Kept p) where
  row_there : row_in (roll_on p) (roll_on grown) 0 ≡ Ok 0
  row_there = ap (find 1 p.table) grown_kept.label_is ∙ k.found

  no_more_there : no_more (roll_on grown) (roll_on p) ≡ true
  unfolding no_more
  no_more_there =
      each_one (λ q. not (is_absent (row_in (roll_on grown) (roll_on p) q)))
      (ap (λ (f : Result ℕ ℕ). not (is_absent f)) (ap (find 1 grown_table) k.label_is ∙ grown_kept.found))

  row_derives : (s : List ℕ) (n : ℕ) → p.height + n ≡ 1 → grown-by p.tail s n ≡ new_tail → row_derived (roll_on grown) (roll_on p) 0 s n ≡ true
  unfolding row_derived
  row_derives s n h t =
      (λ i.
      eqb (counted_height (roll_on p) (row_there i) + n) (grown_kept.height_is i)
      && same (grown-by (counted_tail (roll_on p) (row_there i)) s n) (grown_kept.tail_is i))
      ∙ (λ i. eqb (k.height_is i + n) 1 && same (grown-by (k.tail_is i) s n) new_tail)
      ∙ (λ i. eqb (h i) 1 && same (t i) new_tail)
      ∙ same_refl new_tail

  -- and so does the whole roll
  roll_derives : (v : Roll) (s : ℕ → List ℕ) (n : ℕ → ℕ) → v ≡ roll_on p → p.height + n 0 ≡ 1 → grown-by p.tail (s 0) (n 0) ≡ new_tail
      → (no_more (roll_on grown) v && each (λ r. row_derived (roll_on grown) v r (s r) (n r)) 1) ≡ true
  roll_derives v s n c h t =
      (λ i. no_more (roll_on grown) (c i) && each (λ r. row_derived (roll_on grown) (c i) r (s r) (n r)) 1)
      ∙ (λ i. no_more_there i && each_one (λ r. row_derived (roll_on grown) (roll_on p) r (s r) (n r)) (row_derives (s 0) (n 0) h t) i)

first_derives : roll_derived (roll_on grown) bundle 0 ≡ true
unfolding roll_derived grown-by
first_derives =
    roll_derives grown_kept (roll_of bundle 0) (λ r. digests bundle (list_of 1 0 r)) (λ r. added bundle (list_of 1 0 r)) (cut_there grown_kept 0 first_roll)
    (λ i. 1 + none_added i)
    (λ i. grown-by new_tail (digests bundle 0) (none_added i))

third_derives : roll_derived (roll_on grown) bundle 1 ≡ true
unfolding roll_derived grown-by
third_derives =
    roll_derives young_kept (roll_of bundle 1) (λ r. digests bundle (list_of 1 1 r)) (λ r. added bundle (list_of 1 1 r)) (cut_there young_kept 1 third_roll)
    (λ i. 0 + one_added i)
    ((λ i. grown-by no_digest (entry_added i) (one_added i)) ∙ tail_grows)

-- both old rolls have the row
first_has : has_row (roll_on grown) bundle 0 0 ≡ true
first_has = (λ i. not (is_absent (row_in (cut_there grown_kept 0 first_roll i) (roll_on grown) 0))) ∙ (λ i. not (is_absent (row_there grown_kept i)))

third_has : has_row (roll_on grown) bundle 0 1 ≡ true
third_has = (λ i. not (is_absent (row_in (cut_there young_kept 1 third_roll i) (roll_on grown) 0))) ∙ (λ i. not (is_absent (row_there young_kept i)))

had_so : (i : ℕ) → has_row (roll_on grown) bundle 0 i ≡ true → had_elsewhere (roll_on grown) bundle i ≡ true
unfolding had_elsewhere
had_so i e =
    each_one (λ r. has_row (roll_on grown) bundle r i || some (λ j. not (eqb j i) && has_row (roll_on grown) bundle r j) (old_count bundle))
    (λ k. e k || some (λ j. not (eqb j i) && has_row (roll_on grown) bundle 0 j) (old_count bundle))

first_keeps : kept_by_some (roll_on grown) bundle 0 ≡ true
unfolding kept_by_some
first_keeps =
    let test : ℕ → Bool = λ i. has_row (roll_on grown) bundle 0 i && eqb (added bundle (list_of 1 i 0)) 0 in
    ap (some test) two_old ∙ some_first test (λ i. first_has i && eqb (none_added i) 0)

derived_so : derived (roll_on grown) bundle ≡ true
unfolding derived
derived_so =
    (λ i.
    each (roll_derived (roll_on grown) bundle) (two_old i)
    && each (had_elsewhere (roll_on grown) bundle) (two_old i)
    && each (kept_by_some (roll_on grown) bundle) 1)
    ∙ (λ i.
    each_two (roll_derived (roll_on grown) bundle) first_derives third_derives i
    && each_two (had_elsewhere (roll_on grown) bundle) (had_so 0 first_has) (had_so 1 third_has) i
    && each_one (kept_by_some (roll_on grown) bundle) first_keeps i)

-- Activate
racks_are_those : (who : List ℕ) → racks_differ (prepared who).head rack_A rack_B ≡ false
unfolding racks_differ
racks_are_those who =
    (λ i. not (same (known_A.digest_is i) digest_A && same (known_B.digest_is i) digest_B))
    ∙ (λ i. not (same_refl digest_A i && same_refl digest_B i))

rolls_hold : each (λ i. holds roll_layout (old_roll bundle i)) (old_count bundle) ≡ true
rolls_hold =
    ap (each (λ i. holds roll_layout (old_roll bundle i))) two_old
    ∙ each_two (λ i. holds roll_layout (old_roll bundle i)) (holds_there grown_kept 0 first_roll) (holds_there young_kept 1 third_roll)

bundle_passes : (who : List ℕ) → LetsBy (bundle_tests 0 (lent (prepared who) []) rack_A rack_B bundle)
unfolding bundle_tests readiness lending sound
bundle_passes who =
    also refl (also (ap not grown_kept.fits) (also refl (also (ap not known_A.rack_holds) (also (ap not known_B.rack_holds)
    (also (racks_are_those who)
    (also ((λ i. not (bundle_fits (known_A.size_is i) (known_B.size_is i) 1 bundle)) ∙ ap not bundle_fits_so)
    (also (ap not rolls_hold) end)))))))

handover_passes : (who : List ℕ) → LetsBy (handover_tests (lent (prepared who) []) rack_A rack_B bundle)
unfolding handover_tests marks_tests mark_tests parts
handover_passes who =
    also (λ i. ltb 2 (majority (known_A.size_is i)) || ltb 2 (majority (known_B.size_is i)))
    (also refl (also refl (also refl (also refl (also refl (also refl (also refl (also refl (also (ap not derived_so) end)))))))))

pub activates_so : (who : List ℕ) → Gives who (prepared who) activates (active who) [] []
unfolding outcome_of activating
activates_so who =
    record {
      outcome_is =
          takes_effect _ _ _ _
          (lets_all
          (lets_both (bundle_tests 0 (lent (prepared who) []) rack_A rack_B bundle) (handover_tests (lent (prepared who) []) rack_A rack_B bundle)
          (bundle_passes who) (handover_passes who)));
    }

-- what its marks claim
first_claims : (who : List ℕ) → old_claim (prepared who) rack_A bundle 0 ≡ claim (key 1) (parting grown)
unfolding old_claim parts
first_claims who = λ i. claim (known_A.a_at i) (old_speaks grown_kept 0 first_roll who i)

third_claims : (who : List ℕ) → old_claim (prepared who) rack_A bundle 1 ≡ claim (key 3) (parting young)
unfolding old_claim parts
third_claims who = λ i. claim (known_A.c_at i) (old_speaks young_kept 1 third_roll who i)

fourth_claims : (who : List ℕ) → new_claim (prepared who) rack_B bundle 0 ≡ claim (key 4) entering
unfolding new_claim parts
fourth_claims who = λ i. claim (known_B.a_at i) (entering_said who i)

fifth_claims : (who : List ℕ) → new_claim (prepared who) rack_B bundle 1 ≡ claim (key 5) entering
unfolding new_claim parts
fifth_claims who = λ i. claim (known_B.b_at i) (entering_said who i)

pub claimed : (who : List ℕ)
    → claims_by (prepared who) activates ≡ claim (key 3) (parting young) ∷ claim (key 1) (parting grown) ∷ claim (key 5) entering ∷ claim (key 4) entering ∷ []
unfolding claims_by listed
claimed who =
    (λ i. listed (two_old i) (old_claim (prepared who) rack_A bundle) ++ listed (two_new i) (new_claim (prepared who) rack_B bundle))
    ∙ (λ i. third_claims who i ∷ first_claims who i ∷ fifth_claims who i ∷ fourth_claims who i ∷ [])

-- and the strings that are hashed
pub hashed_there : (who : List ℕ)
    → hashed_by (prepared who) activates ≡ rack_string rack_A ∷ rack_string rack_B ∷ young.string ∷ grown.string ∷ []
unfolding hashed_by listed
hashed_there who =
    (λ i. rack_string rack_A ∷ rack_string rack_B ∷ listed (two_old i) (old_string bundle))
    ∙ (λ i. rack_string rack_A ∷ rack_string rack_B ∷ string_there young_kept 1 third_roll i ∷ string_there grown_kept 0 first_roll i ∷ [])
