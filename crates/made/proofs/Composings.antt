-- What entries and a store have that the maker does not refuse, and that the bundle which it makes of them is one. Assumes nothing.
use mathlib.Core.Path.{◌≡◌, refl, sym, ap, ◌∙◌}
use mathlib.Core.Bool.{Bool, true, false, not, cond, ◌&&◌, ◌||◌}
use mathlib.Core.List.{List, [], ◌∷◌, ◌++◌, append_assoc}
use Prim.Native.Nat.{ℕ, ◌+◌, ◌*◌, ◌/◌, ◌%◌, ◌≤◌, ◌<◌}
use native.Mathlib.Decide.{dec_lt}
use native.Mathlib.Nat.{mul_comm, zero-mul, mod-lt, div-add-mod, div-lt_iff_lt-mul}
use native.Mathlib.Omega.{arith}
use borrow.Author.Tests.{eqb-false, eq-eqb, leb-true, le-leb, ltb-false, not-false}
use lib.ListN.{length, take}
use lib.Seq.{take-length, take-append_seam}
use lib.Dec.{eqb, leb, ltb}
use Rattle.refusals.specs.{accepted, area_too_short, record_not_sound, rack_broken, list_broken, roll_broken, too_few}
use Rattle.refusals.specs.{signature_not_valid, initialise_not_valid, not_leading, bundle_too_large}
use Rattle.refusals.specs.Order.{Test, ◌⇒◌, first}
use Rattle.refusals.proofs.Orders.{passes, none_refuses}
use Rattle.octets.specs.Layouts.{holds}
use Rattle.rack.specs.Racks.{rack_layout, majority}
use Rattle.marks.specs.Entries.{entries_fit, marks_tests, pair_position, pair_marks}
use Rattle.marks.proofs.Listed.{entries_alike}
use Rattle.marks.proofs.Refused.{marks-numbered, marks_alike}
use Rattle.rows.specs.Sizes.{most_rows}
use Rattle.rows.specs.Table.{each}
use Rattle.rows.proofs.Tables.{each_of}
use Rattle.roll.specs.Roll.{roll_layout}
use Rattle.store.specs.Area.{area_right}
use Rattle.rules.specs.Bundle.{longest_bundle, most_blocks, most_added, old_count, old_position, old_marks, old_blocks, old_roll, new_count, new_entries}
use Rattle.rules.specs.Bundle.{list_at, list_of, added, blocks_fit, added_fits, bundle_fits}
use Rattle.rules.specs.Activate.{rack_size}
use Rattle.rules.proofs.Somes.{each_all, each_same}
use Rattle.bundle.proofs.Places.{bundle_ends, bundle_old, bundle_new, blocks_few}
use Rattle.maker.specs.Rolls.{label_number, row_count}
use Rattle.maker.specs.Lists.{needed, all_led, lists_made, bundle_made}
use Rattle.maker.specs.Making.{entries_tests, counts_fit, too_large, blocks_made, making_tests, composing}
use Rattle.maker.proofs.FirstTests.{composing_says}
use Rattle.maker.proofs.OldLabels.{RollsHold}
use Rattle.made.proofs.Fronts.{count_alike, position_alike, old_marks_alike, blocks_alike, blocks_of_alike}
use Rattle.made.proofs.Fronts.{new_count_alike, new_entries_alike, lists_alike}
use Rattle.made.proofs.Readings.{count_for, added_made, lists_end}

pub record Composes (previous own e store : List ℕ) : Type 0 where
  pub previous_holds : holds rack_layout previous ≡ true
  pub own_holds : holds rack_layout own ≡ true
  pub fits : bundle_fits (rack_size previous) (rack_size own) 0 e ≡ true
  pub rolls : RollsHold e
  pub enough : (ltb (old_count e) (majority (rack_size previous)) || ltb (new_count e) (majority (rack_size own))) ≡ false
  pub olds_marked : first (marks_tests signature_not_valid (old_marks e) (old_count e)) ≡ accepted
  pub news_marked : first (marks_tests initialise_not_valid (pair_marks (new_entries e)) (new_count e)) ≡ accepted
  pub leads_all : all_led e store ≡ true
  pub few_rows : row_count e ≤ most_rows
  pub few_added : each (counts_fit e) (row_count e) ≡ true
  pub short : length (bundle_made e store) ≤ longest_bundle

neither : (p q : Bool) → (p || q) ≡ false → (p ≡ false) × (q ≡ false)
neither true q e = let z : ◌≡◌ {A = Bool} true false = e in (z, cc)
neither false q e = (refl, e)

module _ (previous own e store : List ℕ) where
  abbrev olds : List Test
  olds = marks_tests signature_not_valid (old_marks e) (old_count e)

  abbrev news : List Test
  news = marks_tests initialise_not_valid (pair_marks (new_entries e)) (new_count e)

  small : too_large e store ≡ false → (row_count e ≤ most_rows) × (each (counts_fit e) (row_count e) ≡ true) × (length (bundle_made e store) ≤ longest_bundle)
  unfolding too_large
  small t =
      let many = ltb most_rows (row_count e) in
      let over = not (each (counts_fit e) (row_count e)) in
      let long = ltb longest_bundle (length (bundle_made e store)) in
      let a = neither (many || over) long t in
      let b = neither many over a.0 in (
        ltb-false most_rows (row_count e) b.0,
        not-false (each (counts_fit e) (row_count e)) b.1,
        ltb-false longest_bundle (length (bundle_made e store)) a.1,
      )

  pub composes : (roll bundle : List ℕ) → (composing previous own e store roll bundle).number ≡ accepted → Composes previous own e store
  unfolding making_tests entries_tests
  composes roll bundle e0 =
      let t0 = sym (composing_says previous own e store roll bundle) ∙ e0 in
      let t1 = passes (not (area_right store)) record_not_sound _ (eqb-false 2 0 refl) t0 in
      let t2 = passes (not (holds rack_layout previous)) rack_broken _ (eqb-false 6 0 refl) t1.1 in
      let t3 = passes (not (holds rack_layout own)) rack_broken _ (eqb-false 6 0 refl) t2.1 in
      let t4 = passes (not (bundle_fits (rack_size previous) (rack_size own) 0 e)) list_broken _ (eqb-false 22 0 refl) t3.1 in
      let t5 = passes (not (each (λ i. holds roll_layout (old_roll e i)) (old_count e))) roll_broken _ (eqb-false 15 0 refl) t4.1 in
      let few = ltb (old_count e) (majority (rack_size previous)) || ltb (new_count e) (majority (rack_size own)) in
      let t6 = passes few too_few _ (eqb-false 16 0 refl) t5.1 in
      let room = ltb (length roll) (length (blocks_made e)) || ltb (length bundle) (length (bundle_made e store)) in
      let rest = (not (all_led e store) ⇒ not_leading) ∷ (too_large e store ⇒ bundle_too_large) ∷ (room ⇒ area_too_short) ∷ [] in
      let t7 : first (olds ++ (news ++ rest)) ≡ accepted = ap first (sym (append_assoc olds news rest)) ∙ t6.1 in
      let t8 = none_refuses olds (news ++ rest) (marks-numbered signature_not_valid (omega arith) (old_marks e) (old_count e)) t7 in
      let t9 = none_refuses news rest (marks-numbered initialise_not_valid (omega arith) (pair_marks (new_entries e)) (new_count e)) t8.1 in
      let t10 = passes (not (all_led e store)) not_leading _ (eqb-false 36 0 refl) t9.1 in
      let t11 = passes (too_large e store) bundle_too_large _ (eqb-false 37 0 refl) t10.1 in
      let s = small t11.0 in
      record {
        previous_holds = not-false (holds rack_layout previous) t2.0;
        own_holds = not-false (holds rack_layout own) t3.0;
        fits = not-false (bundle_fits (rack_size previous) (rack_size own) 0 e) t4.0;
        rolls = not-false (each (λ i. holds roll_layout (old_roll e i)) (old_count e)) t5.0;
        enough = t6.0;
        olds_marked = t8.0;
        news_marked = t9.0;
        leads_all = not-false (all_led e store) t10.0;
        few_rows = s.0;
        few_added = s.1;
        short = s.2;
      }

-- the bundle that is made
module _ (previous own e store : List ℕ) (c : Composes previous own e store) where
  abbrev made : List ℕ
  made = bundle_made e store

  ends : list_at e 0 ≡ length e
  ends = let z : 0 * old_count e ≡ 0 = omega arith in ap (list_at e) (sym z) ∙ bundle_ends (rack_size previous) (rack_size own) 0 e c.fits

  pub agree : take (length e) e ≡ take (length e) (bundle_made e store)
  unfolding bundle_made
  agree = take-length e ∙ sym (take-append_seam e (lists_made e store (old_count e)))

  pub within : list_at e 0 ≤ length e
  within = omega (arith, ends)

  pub count_is : old_count (bundle_made e store) ≡ old_count e
  count_is = count_alike e made (length e) agree within

  pub lists_begin : list_at (bundle_made e store) 0 ≡ length e
  lists_begin = lists_alike e made (length e) agree within ∙ ends

  pub few_each : (i r : ℕ) → i < old_count e → r < row_count e → count_for e i r ≤ most_added
  unfolding counts_fit
  few_each i r h k =
      leb-true (count_for e i r) most_added
      (each_of (λ i. leb (needed e (label_number e r) i) most_added) (old_count e) i h (each_of (counts_fit e) (row_count e) r k c.few_added))

  olds_fit : entries_fit (rack_size previous) (old_position made) (old_marks made) (old_count made) ≡ true
  olds_fit =
      ap (entries_fit (rack_size previous) (old_position made) (old_marks made)) count_is
      ∙ entries_alike (rack_size previous) (old_position made) (old_position e) (old_marks made) (old_marks e) (old_count e)
      (position_alike e made (length e) agree within) (old_marks_alike e made (length e) agree within)
      ∙ bundle_old (rack_size previous) (rack_size own) 0 e c.fits

  blocks_fit-each : each (blocks_fit made) (old_count made) ≡ true
  unfolding blocks_fit
  blocks_fit-each =
      ap (each (blocks_fit made)) count_is
      ∙ each_all (blocks_fit made) (old_count e)
      (λ i h.
      let few = blocks_few (rack_size previous) (rack_size own) 0 e c.fits i h in
      ap (λ (b : ℕ). leb 1 b && leb b most_blocks) (blocks_alike e made (length e) agree within i h)
      ∙ (λ j. le-leb 1 (old_blocks e i) few.0 j && le-leb (old_blocks e i) most_blocks few.1 j))

  news_fit : entries_fit (rack_size own) (pair_position (new_entries made)) (pair_marks (new_entries made)) (new_count made) ≡ true
  news_fit =
      let entries = new_entries_alike e made (length e) agree within in
      (λ j. entries_fit (rack_size own) (pair_position (entries j)) (pair_marks (entries j)) (new_count_alike e made (length e) agree within j))
      ∙ bundle_new (rack_size previous) (rack_size own) 0 e c.fits

  -- each list is one of an old entry and a row
  added_fits_there : (j : ℕ) → j < row_count e * old_count e → added_fits (bundle_made e store) j ≡ true
  unfolding added_fits
  added_fits_there j h = go (dec_lt 0 (row_count e))
    where
      go : Dec (0 < row_count e) → leb (added (bundle_made e store) j) most_added ≡ true
      go (yes l) =
          let i = j / row_count e in
          let r = j % row_count e in
          let turned = mul_comm (row_count e) (old_count e) in
          let entry : i < old_count e = (div-lt_iff_lt-mul {k = row_count e} {x = j} {y = old_count e} l).1 (omega arith) in
          let row : r < row_count e = mod-lt j l in
          let count = added_made e store few_each lists_begin i r entry row in
          le-leb (added (bundle_made e store) j) most_added
          (omega (arith, ap (added (bundle_made e store)) (sym (div-add-mod j (row_count e))) ∙ count, few_each i r entry row))
      go (no l) =
          let z : row_count e ≡ 0 = omega arith in
          let none : row_count e * old_count e ≡ 0 = ap (λ (n : ℕ). n * old_count e) z ∙ zero-mul (old_count e) in
          absurd (omega arith)

  counts_fit_each : each (added_fits made) (row_count e * old_count made) ≡ true
  counts_fit_each =
      ap (λ (n : ℕ). each (added_fits made) (row_count e * n)) count_is ∙ each_all (added_fits made) (row_count e * old_count e) added_fits_there

  ends_there : eqb (list_at made (row_count e * old_count made)) (length made) ≡ true
  ends_there =
      eq-eqb (list_at made (row_count e * old_count made)) (length made)
      (ap (λ (n : ℕ). list_at made (row_count e * n)) count_is ∙ lists_end e store few_each lists_begin)

  pub made_fits : bundle_fits (rack_size previous) (rack_size own) (row_count e) (bundle_made e store) ≡ true
  unfolding bundle_fits
  made_fits =
      λ j. le-leb (length made) longest_bundle c.short j && (olds_fit j && blocks_fit-each j) && news_fit j && counts_fit_each j && ends_there j

  pub made-rolls : each (λ i. holds roll_layout (old_roll (bundle_made e store) i)) (old_count (bundle_made e store)) ≡ true
  made-rolls =
      ap (each (λ i. holds roll_layout (old_roll made i))) count_is
      ∙ each_same (λ i. holds roll_layout (old_roll made i)) (λ i. holds roll_layout (old_roll e i)) (old_count e)
      (λ i h. ap (holds roll_layout) (blocks_of_alike e made (length e) agree within i h))
      ∙ c.rolls

  pub made-enough :
      (ltb (old_count (bundle_made e store)) (majority (rack_size previous)) || ltb (new_count (bundle_made e store)) (majority (rack_size own)))
      ≡ false
  made-enough =
      (λ j. ltb (count_is j) (majority (rack_size previous)) || ltb (new_count_alike e made (length e) agree within j) (majority (rack_size own))) ∙ c.enough

  pub made_olds : first (marks_tests signature_not_valid (old_marks (bundle_made e store)) (old_count (bundle_made e store))) ≡ accepted
  made_olds =
      ap (λ (n : ℕ). first (marks_tests signature_not_valid (old_marks made) n)) count_is
      ∙ ap first (marks_alike signature_not_valid (old_marks made) (old_marks e) (old_count e) (old_marks_alike e made (length e) agree within))
      ∙ c.olds_marked

  pub made_news :
      first (marks_tests initialise_not_valid (pair_marks (new_entries (bundle_made e store))) (new_count (bundle_made e store))) ≡ accepted
  made_news =
      let entries = new_entries_alike e made (length e) agree within in
      (λ j. first (marks_tests initialise_not_valid (pair_marks (entries j)) (new_count_alike e made (length e) agree within j))) ∙ c.news_marked
