-- Laws of the maker's tests in their order: which one decides, and what the call has then. Assumes nothing.
use mathlib.Core.Path.{◌≡◌, refl, sym, ap, ◌∙◌}
use mathlib.Core.Bool.{Bool, true, false, not, ◌||◌}
use mathlib.Core.List.{List, [], ◌∷◌, ◌++◌}
use Prim.Native.Nat.{ℕ, ◌*◌, ◌<◌, ◌≤◌}
use native.Mathlib.Omega.{arith}
use borrow.Author.Tests.{lt-ltb, le-ltb, eqb-false, ne_eqb, not-false}
use lib.ListN.{length}
use lib.Dec.{ltb}
use Rattle.refusals.specs.{accepted, area_too_short, record_not_sound, rack_broken, list_broken, roll_broken, not_leading, bundle_too_large}
use Rattle.refusals.specs.Order.{Test, ◌⇒◌, first}
use Rattle.refusals.proofs.Orders.{numbered, passes, stops, goes_on, none_refuses}
use Rattle.octets.specs.Layouts.{holds}
use Rattle.octets.specs.Strings.{put}
use Rattle.rack.specs.Racks.{rack_layout}
use Rattle.rows.specs.Sizes.{most_rows}
use Rattle.rows.specs.Table.{each}
use Rattle.roll.specs.Blocks.{block_bytes, blocks, first_blocks}
use Rattle.roll.specs.Roll.{roll_layout}
use Rattle.roll.proofs.Rolls.{written_length}
use Rattle.store.specs.Area.{area_right}
use Rattle.rules.specs.Bundle.{longest_bundle, old_count, new_at, list_at, bundle_fits}
use Rattle.rules.specs.Activate.{rack_size}
use Rattle.bundle.proofs.Places.{bundle_short, new_within, list_within}
use Rattle.entries.specs.Asked.{roll_held, attended_tests}
use Rattle.entries.proofs.Attended.{attended_numbered}
use Rattle.maker.specs.Rolls.{row_count, roll_made}
use Rattle.maker.specs.Lists.{all_led, bundle_made}
use Rattle.maker.specs.Making.{entries_tests, too_large, blocks_made, making_tests, composing}
use Rattle.maker.proofs.RollsMade.{made_fits}
use Rattle.gathering.specs.Old.{Given}

-- what the tests of the entries see first
module _ (previous own e store : List ℕ) where
  abbrev pub string_tests : List Test
  string_tests =
      (not (area_right store) ⇒ record_not_sound)
      ∷ (not (holds rack_layout previous) ⇒ rack_broken)
      ∷ (not (holds rack_layout own) ⇒ rack_broken)
      ∷ (not (bundle_fits (rack_size previous) (rack_size own) 0 e) ⇒ list_broken)
      ∷ (not (each (roll_held e) (old_count e)) ⇒ roll_broken)
      ∷ []

  entries_parts : entries_tests previous own e store ≡ string_tests ++ attended_tests previous own e
  unfolding entries_tests attended_tests
  entries_parts = refl

  string_numbered : numbered string_tests ≡ true
  unfolding numbered
  string_numbered = refl

  entries_numbered : numbered (entries_tests previous own e store) ≡ true
  unfolding entries_tests attended_tests numbered
  entries_numbered = attended_numbered previous own e

  pub string_refuses : (n : ℕ) → n ≡ first string_tests → (n ≡ accepted → ⊥) → n ≡ first (entries_tests previous own e store)
  string_refuses n p r = p ∙ sym (ap first entries_parts ∙ stops string_tests (attended_tests previous own e) n string_numbered p r)

  pub attended_decide : first string_tests ≡ accepted → first (entries_tests previous own e store) ≡ first (attended_tests previous own e)
  attended_decide p = ap first entries_parts ∙ goes_on string_tests (attended_tests previous own e) accepted string_numbered (sym p) refl

  -- what is known where none of them refuses
  module _ (fits : bundle_fits (rack_size previous) (rack_size own) 0 e ≡ true) where
    pub entries_short : length e ≤ longest_bundle
    entries_short = bundle_short (rack_size previous) (rack_size own) 0 e fits

    pub entries_within : new_at e < length e
    entries_within = omega (arith, new_within (rack_size previous) (rack_size own) 0 e fits)

    pub lists_begin : list_at e 0 ≤ length e
    lists_begin = list_within (rack_size previous) (rack_size own) 0 e fits 0 (omega arith)

  pub known : first (entries_tests previous own e store) ≡ accepted → (area_right store ≡ true) × Given e
  known p =
      let q = (none_refuses string_tests (attended_tests previous own e) string_numbered (sym (ap first entries_parts) ∙ p)).0 in
      let a = passes (not (area_right store)) record_not_sound _ (eqb-false 2 0 refl) q in
      let b = passes (not (holds rack_layout previous)) rack_broken _ (eqb-false 6 0 refl) a.1 in
      let c = passes (not (holds rack_layout own)) rack_broken _ (eqb-false 6 0 refl) b.1 in
      let d = passes (not (bundle_fits (rack_size previous) (rack_size own) 0 e)) list_broken _ (eqb-false 22 0 refl) c.1 in
      let f = passes (not (each (roll_held e) (old_count e))) roll_broken _ (eqb-false 15 0 refl) d.1 in
      let fits = not-false (bundle_fits (rack_size previous) (rack_size own) 0 e) d.0 in (
        not-false (area_right store) a.0,
        record { within = entries_within fits; short = entries_short fits; rolls = not-false (each (roll_held e) (old_count e)) f.0 },
      )

-- the call
module _ (previous own e store roll bundle : List ℕ) where
  abbrev tests : List Test
  tests = making_tests previous own e store roll bundle

  abbrev short : Bool
  short = ltb (length roll) (length (blocks_made e)) || ltb (length bundle) (length (bundle_made e store))

  abbrev later : List Test
  later = (not (all_led e store) ⇒ not_leading) ∷ (too_large e store ⇒ bundle_too_large) ∷ (short ⇒ area_too_short) ∷ []

  refused : (n : ℕ) → first tests ≡ n → (n ≡ accepted → ⊥)
      → record { number = n; roll = 0; bundle = 0; roll_area = roll; bundle_area = bundle } ≡ composing previous own e store roll bundle
  unfolding composing
  refused n p r = rw (p, ne_eqb n accepted r)

  pub entries_refused :
      (n : ℕ) → n ≡ first (entries_tests previous own e store) → (n ≡ accepted → ⊥)
      → record { number = n; roll = 0; bundle = 0; roll_area = roll; bundle_area = bundle } ≡ composing previous own e store roll bundle
  unfolding making_tests
  entries_refused n p r = refused n (stops (entries_tests previous own e store) later n (entries_numbered previous own e store) p r ∙ sym p) r

  module _ (p : first (entries_tests previous own e store) ≡ accepted) where
    goes : first tests ≡ first later
    unfolding making_tests
    goes = goes_on (entries_tests previous own e store) later accepted (entries_numbered previous own e store) (sym p) refl

    pub unled_refused :
        all_led e store ≡ false
        → record { number = not_leading; roll = 0; bundle = 0; roll_area = roll; bundle_area = bundle } ≡ composing previous own e store roll bundle
    unfolding first
    unled_refused l = refused not_leading (goes ∙ rw l) (eqb-false 36 0 refl)

    module _ (l : all_led e store ≡ true) where
      pub large_refused :
          too_large e store ≡ true
          → record { number = bundle_too_large; roll = 0; bundle = 0; roll_area = roll; bundle_area = bundle } ≡ composing previous own e store roll bundle
      unfolding first
      large_refused t = refused bundle_too_large (goes ∙ rw (l, t)) (eqb-false 37 0 refl)

      pub rows_refused :
          most_rows < row_count e
          → record { number = bundle_too_large; roll = 0; bundle = 0; roll_area = roll; bundle_area = bundle } ≡ composing previous own e store roll bundle
      unfolding too_large
      rows_refused h = large_refused (rw (lt-ltb most_rows (row_count e) h))

      module _ (t : too_large e store ≡ false) where
        short-refused :
            short ≡ true
            → record { number = area_too_short; roll = 0; bundle = 0; roll_area = roll; bundle_area = bundle } ≡ composing previous own e store roll bundle
        unfolding first
        short-refused s = refused area_too_short (goes ∙ rw (l, t, s)) (eqb-false 1 0 refl)

        pub roll_refused :
            length roll < length (blocks_made e)
            → record { number = area_too_short; roll = 0; bundle = 0; roll_area = roll; bundle_area = bundle } ≡ composing previous own e store roll bundle
        roll_refused h = short-refused (rw (lt-ltb (length roll) (length (blocks_made e)) h))

        module _ (k : length (blocks_made e) ≤ length roll) where
          pub bundle_refused :
              length bundle < length (bundle_made e store)
              → record { number = area_too_short; roll = 0; bundle = 0; roll_area = roll; bundle_area = bundle } ≡ composing previous own e store roll bundle
          bundle_refused h =
              short-refused
              (rw (le-ltb (length roll) (length (blocks_made e)) k, lt-ltb (length bundle) (length (bundle_made e store)) h))

          composed :
              length (bundle_made e store) ≤ length bundle
              → record {
                number = accepted;
                roll = length (blocks_made e);
                bundle = length (bundle_made e store);
                roll_area = put roll 0 (blocks_made e);
                bundle_area = put bundle 0 (bundle_made e store);
              }
              ≡ composing previous own e store roll bundle
          unfolding composing first
          composed h =
              let s : short ≡ false = rw (le-ltb (length roll) (length (blocks_made e)) k) (le-ltb (length bundle) (length (bundle_made e store)) h) in
              let q : first tests ≡ accepted = goes ∙ rw (l, t, s) in rw q

          pub written :
              (m n : ℕ) (x y : List ℕ) → m ≡ length (blocks_made e) → n ≡ length (bundle_made e store) → x ≡ put roll 0 (blocks_made e)
              → y ≡ put bundle 0 (bundle_made e store) → length (bundle_made e store) ≤ length bundle
              → record { number = accepted; roll = m; bundle = n; roll_area = x; bundle_area = y } ≡ composing previous own e store roll bundle
          written m n x y p q v w h = rw (p, q, v, w) (composed h)

-- the roll's bytes
pub roll_long : (e : List ℕ) → each (roll_held e) (old_count e) ≡ true → row_count e ≤ most_rows → length (blocks_made e) ≡ block_bytes * blocks (row_count e)
unfolding blocks_made roll_layout roll_made
roll_long e held few = written_length (row_count e) (roll_made e).rows (made_fits e held few)

pub blocks_are : (e : List ℕ) → first_blocks (row_count e) (roll_made e).rows (blocks (row_count e)) ≡ blocks_made e
unfolding blocks_made roll_layout roll_made
blocks_are e = refl
