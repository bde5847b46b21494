-- What the maker writes is accepted: the roll that it makes is derived from the old rolls by the digests in its lists. Assumes nothing.
use mathlib.Core.Path.{◌≡◌, refl, sym, ap, subst, ◌∙◌}
use mathlib.Core.Bool.{Bool, true, false, not, ◌&&◌, ◌||◌}
use mathlib.Core.List.{List, [], ◌∷◌, ◌++◌, append_assoc}
use Prim.Native.Nat.{ℕ, suc, ◌+◌, ◌-◌, ◌≤◌, ◌<◌}
use native.Mathlib.Omega.{arith}
use borrow.Author.Tests.{eq-eqb, le-ltb}
use lib.ListN.{length}
use lib.Dec.{eqb, ltb}
use Rattle.refusals.specs.{accepted, area_too_short, record_not_sound, not_prepared, rack_broken, digest_differs, list_broken, roll_broken, too_few}
use Rattle.refusals.specs.{signature_not_valid, initialise_not_valid, not_derived}
use Rattle.refusals.specs.Order.{Test, ◌⇒◌, first}
use Rattle.refusals.proofs.Orders.{lets_by, goes_on}
use Rattle.octets.specs.Strings.{same}
use Rattle.octets.specs.Layouts.{holds}
use Rattle.octets.proofs.RoundTrips.{and_right, same_refl}
use Rattle.rack.specs.Racks.{rack_layout, majority}
use Rattle.marks.specs.Entries.{marks_tests, pair_marks}
use Rattle.marks.proofs.Refused.{marks-numbered}
use Rattle.rows.specs.Row.{label_of}
use Rattle.rows.specs.Table.{each}
use Rattle.rows.proofs.Tables.{each_of}
use Rattle.roll.specs.Roll.{Roll, roll_layout}
use Rattle.roll.proofs.Rolls.{cut_written}
use Rattle.rules.specs.Record.{prepared, sound}
use Rattle.rules.specs.Outcomes.{Lent, lending, readiness, given, unless}
use Rattle.rules.specs.Rows.{is_absent}
use Rattle.rules.specs.Bundle.{old_count, old_marks, old_roll, new_count, new_entries, list_of, added, digests, bundle_fits}
use Rattle.rules.specs.Derivation.{row_in, no_more, grown, row_derived, roll_of, roll_derived, has_row, kept_by_some, derived}
use Rattle.rules.specs.Activate.{rack_size, own_roll, racks_differ, bundle_tests, handover_tests, acting, activating}
use Rattle.rules.proofs.Somes.{some_found, each_all}
use Rattle.rules.proofs.Derived.{rows_decide}
use Rattle.maker.specs.Rolls.{old_height, old_tail, highest, label_number, row_count, roll_made}
use Rattle.maker.specs.Lists.{answered, needed, leads, led, roll_led, all_led, bundle_made}
use Rattle.maker.specs.Making.{blocks_made}
use Rattle.maker.proofs.OldLabels.{OldLabel, number_old, row_some}
use Rattle.maker.proofs.Tops.{missing, highest_most, highest_held}
use Rattle.maker.proofs.RollsMade.{made_label, made_tail, made_height, made_fits as roll_fits, made_has}
use Rattle.made.specs.Accepted.{Prepared, Taken, WhatItWritesIsAccepted}
use Rattle.made.proofs.Fronts.{roll_alike}
use Rattle.made.proofs.Readings.{count_for, digests_for, added_made, digests_made}
use Rattle.made.proofs.Composings.{Composes, composes, agree, within, count_is, lists_begin, few_each}
use Rattle.made.proofs.Composings.{made_fits, made-rolls, made-enough, made_olds, made_news}

module _ (previous own e store : List ℕ) (c : Composes previous own e store) where
  abbrev made : List ℕ
  made = bundle_made e store

  module _ (r : ℕ) (k : r < row_count e) where
    -- the label of row r is some old roll's
    old_label : OldLabel e (label_number e r)
    old_label = number_old e c.rolls r (row_some e c.rolls r k)

    -- so each old row is led to its row
    leads_there : (i : ℕ) → i < old_count e → leads e store (label_number e r) i ≡ true
    unfolding all_led roll_led led
    leads_there i h =
        let o = old_label in
        let a = each_of (roll_led e store) (old_count e) o.entry o.entry_is c.leads_all in
        let b = each_of (λ q. led e store (label_of (roll_of e o.entry).rows q)) (roll_of e o.entry).count o.row o.row_is a in
        each_of (leads e store (label_number e r)) (old_count e) i h (subst (λ (l : List ℕ). led e store l ≡ true) o.label_is b)

    module _ (i : ℕ) (h : i < old_count e) where
      heights : eqb (old_height e (label_number e r) i + count_for e i r) (highest e (label_number e r)).height ≡ true
      unfolding needed
      heights =
          eq-eqb (old_height e (label_number e r) i + count_for e i r) (highest e (label_number e r)).height
          (omega (arith, highest_most e c.rolls (label_number e r) i h))

      tails :
          same (grown (old_tail e (label_number e r) i) (digests_for e store i r) (count_for e i r)) (highest e (label_number e r)).tail ≡ true
      unfolding leads
      tails =
          and_right (each (λ d. answered store (label_number e r) (old_height e (label_number e r) i + suc d)) (needed e (label_number e r) i))
          (same (grown (old_tail e (label_number e r) i) (digests_for e store i r) (count_for e i r)) (highest e (label_number e r)).tail)
          (leads_there i h)

      row_led : row_derived (roll_made e) (roll_of e i) r (digests_for e store i r) (count_for e i r) ≡ true
      unfolding row_derived old_height old_tail
      row_led =
          let label = made_label e c.rolls r k in
          (λ j.
          eqb (old_height e (label j) i + count_for e i r) (made_height e c.rolls r k j)
          && same (grown (old_tail e (label j) i) (digests_for e store i r) (count_for e i r)) (made_tail e c.rolls r k j))
          ∙ (λ j. heights j && tails j)

      row_led_there :
          row_derived (roll_made e) (roll_of e i) r (digests made (list_of (row_count e) i r)) (added made (list_of (row_count e) i r)) ≡ true
      row_led_there =
          let few = few_each previous own e store c in
          let front = lists_begin previous own e store c in
          (λ j. row_derived (roll_made e) (roll_of e i) r (digests_made e store few front i r h k j) (added_made e store few front i r h k j)) ∙ row_led

  module _ (i : ℕ) (h : i < old_count e) where
    roll_is : roll_of (bundle_made e store) i ≡ roll_of e i
    roll_is = roll_alike e made (length e) (agree previous own e store c) (within previous own e store c) i h

    -- "no more"
    more : no_more (roll_made e) (roll_of e i) ≡ true
    unfolding no_more roll_made
    more =
        each_all (λ q. not (is_absent (row_in (roll_made e) (roll_of e i) q))) (roll_of e i).count
        (λ q l.
        ap not
        (made_has e c.rolls c.few_rows (label_of (roll_of e i).rows q)
        (record { entry = i; entry_is = h; row = q; row_is = l; label_is = refl })))

    roll_leads : roll_derived (roll_made e) (bundle_made e store) i ≡ true
    unfolding roll_derived roll_made
    roll_leads =
        let test : Roll → ℕ → Bool =
        λ old r. row_derived (roll_made e) old r (digests made (list_of (row_count e) i r)) (added made (list_of (row_count e) i r)) in
        (λ j. no_more (roll_made e) (roll_is j) && each (test (roll_is j)) (row_count e))
        ∙ (λ j. more j && each_all (test (roll_of e i)) (row_count e) (λ r k. row_led_there r k i h) j)

  -- the old roll that has the highest row adds none
  kept : (r : ℕ) → r < row_count e → kept_by_some (roll_made e) (bundle_made e store) r ≡ true
  unfolding kept_by_some roll_made needed
  kept r k =
      let t = highest_held e c.rolls (label_number e r) (old_label r k) in
      let i = t.entry in
      let label = made_label e c.rolls r k in
      let n : needed e (label_number e r) i ≡ 0 = omega (arith, t.height_is) in
      let count = added_made e store (few_each previous own e store c) (lists_begin previous own e store c) i r t.entry_is k in
      let has : has_row (roll_made e) made r i ≡ true =
      (λ j. not (is_absent (row_in (roll_is i t.entry_is j) (roll_made e) r))) ∙ (λ j. not (missing e (label j) i)) ∙ ap not t.there in
      some_found (λ i. has_row (roll_made e) made r i && eqb (added made (list_of (row_count e) i r)) 0) (old_count made) i
      (omega (arith, t.entry_is, count_is previous own e store c))
      (λ j. has j && (ap (λ (m : ℕ). eqb m 0) count ∙ eq-eqb (count_for e i r) 0 n) j)

  derives : derived (roll_made e) (bundle_made e store) ≡ true
  unfolding roll_made
  derives =
      rows_decide (roll_made e) made
      (each_all (roll_derived (roll_made e) made) (old_count made) (λ i h. roll_leads i (omega (arith, count_is previous own e store c))))
      ∙ each_all (kept_by_some (roll_made e) made) (row_count e) kept

  -- the roll
  made_is_roll : roll_layout.fits (roll_made e) ≡ true
  unfolding roll_layout roll_made
  made_is_roll = roll_fits e c.rolls c.few_rows

  reads_back : roll_layout.cut (blocks_made e) ≡ roll_made e
  unfolding blocks_made
  reads_back = cut_written (roll_made e) made_is_roll

  holds_there : holds roll_layout (blocks_made e) ≡ true
  unfolding holds blocks_made
  holds_there =
      (λ j. roll_layout.fits (reads_back j) && same (roll_layout.written (reads_back j)) (blocks_made e))
      ∙ (λ j. made_is_roll j && same_refl (roll_layout.written (roll_made e)) j)

  -- Activate
  module _ (k : Lent) (p : Prepared k previous own) (roll : own_roll k ≡ roll_made e) where
    abbrev olds : List Test
    olds = marks_tests signature_not_valid (old_marks made) (old_count made)

    abbrev news : List Test
    news = marks_tests initialise_not_valid (pair_marks (new_entries made)) (new_count made)

    racks : racks_differ k.head previous own ≡ false
    unfolding racks_differ
    racks =
        (λ j. not (same (p.before j) k.head.previous && same (p.ours j) k.head.own))
        ∙ (λ j. not (same_refl k.head.previous j && same_refl k.head.own j))

    lists : bundle_fits (rack_size previous) (rack_size own) k.head.count (bundle_made e store) ≡ true
    unfolding roll_made
    lists =
        ap (λ (o : Roll). bundle_fits (rack_size previous) (rack_size own) o.count made) roll ∙ made_fits previous own e store c

    derives_ours : derived (own_roll k) (bundle_made e store) ≡ true
    derives_ours = ap (λ (o : Roll). derived o made) roll ∙ derives

    nothing : first [] ≡ accepted
    unfolding first
    nothing = refl

    handed :
        first ((olds ++ news) ++ (not (derived (own_roll k) (bundle_made e store)) ⇒ not_derived) ∷ []) ≡ accepted
    handed =
        let last = (not (derived (own_roll k) made) ⇒ not_derived) ∷ [] in
        ap first (append_assoc olds news last)
        ∙ goes_on olds (news ++ last) accepted (marks-numbered signature_not_valid (omega arith) (old_marks made) (old_count made))
        (sym (made_olds previous own e store c)) refl
        ∙ goes_on news last accepted (marks-numbered initialise_not_valid (omega arith) (pair_marks (new_entries made)) (new_count made))
        (sym (made_news previous own e store c)) refl
        ∙ lets_by (not (derived (own_roll k) made)) not_derived [] (ap not derives_ours) ∙ nothing

    passed : first (bundle_tests 0 k previous own (bundle_made e store) ++ handover_tests k previous own (bundle_made e store)) ≡ accepted
    unfolding bundle_tests readiness lending handover_tests
    passed =
        lets_by (ltb (length k.area) 0) area_too_short _ (le-ltb (length k.area) 0 (omega arith))
        ∙ lets_by (not (sound k.head k.table)) record_not_sound _ (ap not p.stands)
        ∙ lets_by (not (eqb k.head.status prepared)) not_prepared _ (ap not (eq-eqb k.head.status prepared p.waits))
        ∙ lets_by (not (holds rack_layout previous)) rack_broken _ (ap not c.previous_holds)
        ∙ lets_by (not (holds rack_layout own)) rack_broken _ (ap not c.own_holds)
        ∙ lets_by (racks_differ k.head previous own) digest_differs _ racks
        ∙ lets_by (not (bundle_fits (rack_size previous) (rack_size own) k.head.count made)) list_broken _ (ap not lists)
        ∙ lets_by (not (each (λ i. holds roll_layout (old_roll made i)) (old_count made))) roll_broken _ (ap not (made-rolls previous own e store c))
        ∙ lets_by (ltb (old_count made) (majority (rack_size previous)) || ltb (new_count made) (majority (rack_size own))) too_few _
        (made-enough previous own e store c)
        ∙ handed

    accepts : (activating k previous own (bundle_made e store)).answer.number ≡ accepted
    unfolding activating unless given
    accepts = ap (λ (n : ℕ). (unless n 0 k (given [] (acting k.head) k.table k.area)).answer.number) passed

  taken : Taken previous own e store
  taken = record { roll = holds_there; read = reads_back; bundle = accepts }

pub what_it_writes_is_accepted : WhatItWritesIsAccepted
what_it_writes_is_accepted previous own e store roll bundle n = taken previous own e store (composes previous own e store roll bundle n)
