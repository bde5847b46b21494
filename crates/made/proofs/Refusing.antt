-- The maker refuses only what cannot be: where Activate accepts a bundle of the entries and of such digests, no test of the maker holds but those of the
-- store's size and of the areas. Assumes nothing.
use mathlib.Core.Path.{◌≡◌, refl, sym, ap, ap₂, ◌∙◌}
use mathlib.Core.Bool.{Bool, true, false, not, cond, ◌||◌}
use mathlib.Core.List.{List, [], ◌∷◌, ◌++◌, append_assoc}
use Prim.Native.Nat.{ℕ, ◌*◌, ◌≤◌, ◌<◌}
use native.Mathlib.Nat.{zero-mul}
use native.Mathlib.Omega.{arith}
use borrow.Author.Tests.{le-leb, le-ltb, eq-eqb}
use lib.ListN.{length, take}
use lib.Seq.{length-take-le}
use lib.Dec.{ltb}
use Rattle.refusals.specs.{accepted, area_too_short, record_not_sound, signature_not_valid, initialise_not_valid, not_leading, bundle_too_large}
use Rattle.refusals.specs.Order.{Test, ◌⇒◌, first}
use Rattle.refusals.proofs.Orders.{goes_on}
use Rattle.octets.specs.Layouts.{holds}
use Rattle.rack.specs.Racks.{majority}
use Rattle.marks.specs.Entries.{entries_fit, marks_tests, pair_position, pair_marks}
use Rattle.marks.proofs.Listed.{entries_alike}
use Rattle.marks.proofs.Refused.{marks-numbered, marks_alike}
use Rattle.rows.specs.Table.{each}
use Rattle.rows.proofs.Tables.{each_of}
use Rattle.roll.specs.Roll.{roll_layout}
use Rattle.rules.specs.Outcomes.{Lent}
use Rattle.rules.specs.Bundle.{longest_bundle, old_count, old_position, old_marks, old_blocks, old_roll, new_count, new_entries, list_at}
use Rattle.rules.specs.Bundle.{blocks_fit, added_fits, bundle_fits}
use Rattle.rules.specs.Activate.{rack_size, own_roll, acting, bundle_tests, handover_tests, activating}
use Rattle.rules.proofs.Activated.{Bundled, Handing, both_tests}
use Rattle.rules.proofs.Refused.{unless_says}
use Rattle.rules.proofs.Somes.{each_all}
use Rattle.bundle.proofs.Places.{bundle_short, bundle_old, bundle_new, list_within, blocks_few}
use Rattle.store.specs.Area.{area_right}
use Rattle.maker.specs.Lists.{all_led, bundle_made}
use Rattle.maker.specs.Making.{entries_tests, too_large, blocks_made, making_tests, composing}
use Rattle.maker.proofs.FirstTests.{composing_says}
use Rattle.made.specs.Refused.{Such, ItRefusesOnlyWhatCannotBe}
use Rattle.made.proofs.Fronts.{count_alike, position_alike, old_marks_alike, blocks_alike, blocks_of_alike}
use Rattle.made.proofs.Fronts.{new_count_alike, new_entries_alike, lists_alike}
use Rattle.made.proofs.Derivations.{agree}
use Rattle.made.proofs.Forced.{all_are_led, not_too_large}

module _ (previous own e store : List ℕ) (k : Lent) (s : List ℕ) (such : Such e store (own_roll k) s)
    (b : Bundled k previous own s) (h : Handing k previous own s) where
  abbrev size : ℕ
  size = rack_size previous

  abbrev own_size : ℕ
  own_size = rack_size own

  within : list_at s 0 ≤ length s
  within = list_within size own_size k.head.count s b.fits 0 (omega arith)

  alike : take (list_at s 0) s ≡ take (list_at s 0) e
  alike = agree e (own_roll k) s within such.front

  count_is : old_count e ≡ old_count s
  count_is = count_alike s e (list_at s 0) alike (omega arith)

  long : length e ≡ list_at s 0
  long = ap length (sym such.front) ∙ length-take-le (list_at s 0) s within

  olds : entries_fit (rack_size previous) (old_position e) (old_marks e) (old_count e) ≡ true
  olds =
      ap (entries_fit size (old_position e) (old_marks e)) count_is
      ∙ entries_alike size (old_position e) (old_position s) (old_marks e) (old_marks s) (old_count s)
      (λ i l. position_alike s e (list_at s 0) alike (omega arith) i l) (λ i l. old_marks_alike s e (list_at s 0) alike (omega arith) i l)
      ∙ bundle_old size own_size k.head.count s b.fits

  blocked : each (blocks_fit e) (old_count e) ≡ true
  unfolding blocks_fit
  blocked =
      each_all (blocks_fit e) (old_count e)
      (λ i l.
      let m : i < old_count s = omega (arith, count_is) in
      let same_number = blocks_alike s e (list_at s 0) alike (omega arith) i m in
      let few = blocks_few size own_size k.head.count s b.fits i m in
      rw (same_number, le-leb 1 (old_blocks s i) few.0) (le-leb (old_blocks s i) 7 few.1))

  news : entries_fit (rack_size own) (pair_position (new_entries e)) (pair_marks (new_entries e)) (new_count e) ≡ true
  news =
      ap₂ (λ (x : List ℕ) (c : ℕ). entries_fit own_size (pair_position x) (pair_marks x) c) (new_entries_alike s e (list_at s 0) alike (omega arith))
      (new_count_alike s e (list_at s 0) alike (omega arith))
      ∙ bundle_new size own_size k.head.count s b.fits

  entries_right : bundle_fits (rack_size previous) (rack_size own) 0 e ≡ true
  unfolding bundle_fits each
  entries_right =
      let end : list_at e 0 ≡ length e = lists_alike s e (list_at s 0) alike (omega arith) ∙ sym long in
      let fits : length e ≤ longest_bundle = omega (arith, long, within, bundle_short size own_size k.head.count s b.fits) in
      rw (le-leb (length e) longest_bundle fits, olds, blocked, news, zero-mul (old_count e), end)
      (eq-eqb (length e) (length e) refl)

  rolls_right : each (λ i. holds roll_layout (old_roll e i)) (old_count e) ≡ true
  rolls_right =
      each_all (λ i. holds roll_layout (old_roll e i)) (old_count e)
      (λ i l.
      let m : i < old_count s = omega (arith, count_is) in
      rw (blocks_of_alike s e (list_at s 0) alike (omega arith) i m) (each_of (λ i. holds roll_layout (old_roll s i)) (old_count s) i m b.rolls))

  olds_enough : ltb (old_count e) (majority (rack_size previous)) ≡ false
  olds_enough = le-ltb (old_count e) (majority size) (omega (arith, count_is, h.olds_enough))

  news_enough : ltb (new_count e) (majority (rack_size own)) ≡ false
  news_enough =
      le-ltb (new_count e) (majority own_size) (omega (arith, new_count_alike s e (list_at s 0) alike (omega arith), h.news_enough))

  olds_marked : first (marks_tests signature_not_valid (old_marks e) (old_count e)) ≡ accepted
  olds_marked =
      ap (λ (c : ℕ). first (marks_tests signature_not_valid (old_marks e) c)) count_is
      ∙ ap first (marks_alike signature_not_valid (old_marks e) (old_marks s) (old_count s) (λ i l. old_marks_alike s e (list_at s 0) alike (omega arith) i l))
      ∙ h.olds_marked

  news_marked : first (marks_tests initialise_not_valid (pair_marks (new_entries e)) (new_count e)) ≡ accepted
  news_marked =
      ap₂ (λ (x : List ℕ) (c : ℕ). first (marks_tests initialise_not_valid (pair_marks x) c)) (new_entries_alike s e (list_at s 0) alike (omega arith))
      (new_count_alike s e (list_at s 0) alike (omega arith))
      ∙ h.news_marked

  module _ (roll bundle : List ℕ) where
    short : Bool
    short = ltb (length roll) (length (blocks_made e)) || ltb (length bundle) (length (bundle_made e store))

    rest : List Test
    rest = (not (all_led e store) ⇒ not_leading) ∷ (too_large e store ⇒ bundle_too_large) ∷ (short ⇒ area_too_short) ∷ []

    abbrev old_tests : List Test
    old_tests = marks_tests signature_not_valid (old_marks e) (old_count e)

    abbrev new_tests : List Test
    new_tests = marks_tests initialise_not_valid (pair_marks (new_entries e)) (new_count e)

    marks_pass : first (old_tests ++ new_tests ++ rest) ≡ first rest
    marks_pass =
        ap first (append_assoc old_tests new_tests rest)
        ∙ goes_on old_tests (new_tests ++ rest) accepted (marks-numbered signature_not_valid (omega arith) (old_marks e) (old_count e)) (sym olds_marked) refl
        ∙ goes_on new_tests rest accepted (marks-numbered initialise_not_valid (omega arith) (pair_marks (new_entries e)) (new_count e)) (sym news_marked) refl

    rest_is : first rest ≡ cond short area_too_short accepted
    unfolding first rest
    rest_is =
        let right = all_are_led e store (own_roll k) s size own_size b.fits b.fit rolls_right h.derives such in
        let small = not_too_large e store (own_roll k) s size own_size b.fits b.fit rolls_right h.derives such in
        rw (right, small)

    -- only the store's size and the areas are left
    left : first (making_tests previous own e store roll bundle) ≡ cond (area_right store) (cond short area_too_short accepted) record_not_sound
    unfolding making_tests entries_tests first short rest
    left = rw (b.old_holds, b.own_holds, entries_right, rolls_right, olds_enough, news_enough) (go (area_right store))
      where
        go : (r : Bool) → cond (not r) record_not_sound (first (old_tests ++ new_tests ++ rest)) ≡ cond r (cond short area_too_short accepted) record_not_sound
        go true = marks_pass ∙ rest_is
        go false = refl

pub it_refuses_only_what_cannot_be : ItRefusesOnlyWhatCannotBe
unfolding activating
it_refuses_only_what_cannot_be previous own e store roll bundle not-accepted not_IsShort not-sized k s such accepts =
    let tests = bundle_tests 0 k previous own s ++ handover_tests k previous own s in
    let t = both_tests k previous own s (sym (unless_says (first tests) 0 k [] (acting k.head) k.table k.area) ∙ accepts) in
    go (area_right store) (short previous own e store k s such t.0 t.1 roll bundle)
    (composing_says previous own e store roll bundle ∙ left previous own e store k s such t.0 t.1 roll bundle)
  where
    go : (r b : Bool) → (composing previous own e store roll bundle).number ≡ cond r (cond b area_too_short accepted) record_not_sound → ⊥
    go true true n = not_IsShort n
    go true false n = not-accepted n
    go false b n = not-sized n
