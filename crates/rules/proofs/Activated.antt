-- What an accepted activation has: its bundle, its majorities, its marks, its derivation. Assumes nothing.
use mathlib.Core.Path.{◌≡◌, refl, sym, ap, ◌∙◌}
use mathlib.Core.Bool.{Bool, true, false, not, ◌&&◌, ◌||◌}
use mathlib.Core.List.{List, [], ◌∷◌, ◌++◌, append_assoc}
use Prim.Native.Nat.{ℕ, ◌*◌, ◌≤◌}
use native.Mathlib.Omega.{arith}
use borrow.Author.Tests.{eqb-false, ltb-false, not-false}
use lib.ListN.{length}
use lib.Dec.{eqb, leb, ltb}
use Rattle.refusals.specs.{accepted, not_prepared, rack_broken, digest_differs, list_broken, roll_broken, too_few, signature_not_valid, initialise_not_valid, not_derived}
use Rattle.refusals.specs.Order.{◌⇒◌, first}
use Rattle.refusals.proofs.Orders.{numbered, passes, none_refuses}
use Rattle.octets.specs.Strings.{same}
use Rattle.octets.specs.Layouts.{holds}
use Rattle.octets.proofs.RoundTrips.{and_left, and_right, same_is}
use Rattle.marks.specs.Entries.{entries_fit, marks_tests, pair_position, pair_marks}
use Rattle.marks.proofs.Refused.{marks-numbered}
use Rattle.rack.specs.Racks.{rack_layout, rack_digest, majority}
use Rattle.rows.specs.Table.{each, rows_fit}
use Rattle.roll.specs.Roll.{roll_layout}
use Rattle.rules.specs.declared.Head.{Head}
use Rattle.rules.specs.Record.{prepared}
use Rattle.rules.specs.Outcomes.{Lent, lending, readiness}
use Rattle.rules.specs.Bundle.{longest_bundle, old_count, old_position, old_marks, old_roll, new_count, new_entries, list_at, blocks_fit, added_fits, bundle_fits}
use Rattle.rules.specs.Derivation.{derived}
use Rattle.rules.specs.Activate.{rack_size, own_roll, racks_differ, bundle_tests, handover_tests}
use Rattle.rules.proofs.Firsts.{ready, sound_rows}

neither : (p q : Bool) → (p || q) ≡ false → (p ≡ false) × (q ≡ false)
neither true q e = let z : ◌≡◌ {A = Bool} true false = e in (z, cc)
neither false q e = (refl, e)

-- what is known where nothing refuses the bundle
pub record Bundled (k : Lent) (previous own s : List ℕ) : Type 0 where
  pub was : k.head.status ≡ prepared
  pub fit : rows_fit k.head.count k.table ≡ true
  pub old_holds : holds rack_layout previous ≡ true
  pub own_holds : holds rack_layout own ≡ true
  pub fits : bundle_fits (rack_size previous) (rack_size own) k.head.count s ≡ true
  pub old_is : k.head.previous ≡ rack_digest previous
  pub own_is : k.head.own ≡ rack_digest own
  pub olds : entries_fit (rack_size previous) (old_position s) (old_marks s) (old_count s) ≡ true
  pub news : entries_fit (rack_size own) (pair_position (new_entries s)) (pair_marks (new_entries s)) (new_count s) ≡ true
  pub rolls : each (λ i. holds roll_layout (old_roll s i)) (old_count s) ≡ true

bundle_parts :
    (n m rows : ℕ) (s : List ℕ) → bundle_fits n m rows s ≡ true
    → (entries_fit n (old_position s) (old_marks s) (old_count s) ≡ true)
    × (entries_fit m (pair_position (new_entries s)) (pair_marks (new_entries s)) (new_count s) ≡ true)
unfolding bundle_fits
bundle_parts n m rows s e =
    let a = leb (length s) longest_bundle in
    let o = entries_fit n (old_position s) (old_marks s) (old_count s) in
    let b = each (blocks_fit s) (old_count s) in
    let w = entries_fit m (pair_position (new_entries s)) (pair_marks (new_entries s)) (new_count s) in
    let d = each (added_fits s) (rows * old_count s) in
    let z = eqb (list_at s (rows * old_count s)) (length s) in
    let e3 = and_left (a && (o && b) && w && d) z e in
    let e2 = and_left (a && (o && b) && w) d e3 in
    let e1 = and_left (a && (o && b)) w e2 in
    (and_left o b (and_right a (o && b) e1), and_right (a && (o && b)) w e2)

racks_agree : (h : Head) (previous own : List ℕ) → racks_differ h previous own ≡ false → (h.previous ≡ rack_digest previous) × (h.own ≡ rack_digest own)
unfolding racks_differ
racks_agree h previous own e =
    let p = same (rack_digest previous) h.previous in
    let q = same (rack_digest own) h.own in
    let t = not-false (p && q) e in
    (sym (same_is (rack_digest previous) h.previous (and_left p q t)), sym (same_is (rack_digest own) h.own (and_right p q t)))

pub bundled : (size : ℕ) (k : Lent) (previous own s : List ℕ) → first (bundle_tests size k previous own s) ≡ accepted → Bundled k previous own s
unfolding bundle_tests
bundled size k previous own s e =
    let r = ready size prepared not_prepared k _ (eqb-false 5 0 refl) e in
    let a = passes (not (holds rack_layout previous)) rack_broken _ (eqb-false 6 0 refl) r.1 in
    let b = passes (not (holds rack_layout own)) rack_broken _ (eqb-false 6 0 refl) a.1 in
    let c = passes (racks_differ k.head previous own) digest_differs _ (eqb-false 21 0 refl) b.1 in
    let d = passes (not (bundle_fits (rack_size previous) (rack_size own) k.head.count s)) list_broken _ (eqb-false 22 0 refl) c.1 in
    let f = passes (not (each (λ i. holds roll_layout (old_roll s i)) (old_count s))) roll_broken _ (eqb-false 15 0 refl) d.1 in
    let racks = racks_agree k.head previous own c.0 in
    let lists = bundle_parts (rack_size previous) (rack_size own) k.head.count s (not-false (bundle_fits (rack_size previous) (rack_size own) k.head.count s) d.0) in
    record {
      was = r.0.acts;
      fit = sound_rows k.head k.table r.0.sounds;
      old_holds = not-false (holds rack_layout previous) a.0;
      own_holds = not-false (holds rack_layout own) b.0;
      fits = not-false (bundle_fits (rack_size previous) (rack_size own) k.head.count s) d.0;
      old_is = racks.0;
      own_is = racks.1;
      olds = lists.0;
      news = lists.1;
      rolls = not-false (each (λ i. holds roll_layout (old_roll s i)) (old_count s)) f.0;
    }

-- and the handover
pub record Handing (k : Lent) (previous own s : List ℕ) : Type 0 where
  pub olds_enough : majority (rack_size previous) ≤ old_count s
  pub news_enough : majority (rack_size own) ≤ new_count s
  pub olds_marked : first (marks_tests signature_not_valid (old_marks s) (old_count s)) ≡ accepted
  pub news_marked : first (marks_tests initialise_not_valid (pair_marks (new_entries s)) (new_count s)) ≡ accepted
  pub derives : derived (own_roll k) s ≡ true

pub handing : (k : Lent) (previous own s : List ℕ) → first (handover_tests k previous own s) ≡ accepted → Handing k previous own s
unfolding handover_tests
handing k previous own s e =
    let few = ltb (old_count s) (majority (rack_size previous)) in
    let fewer = ltb (new_count s) (majority (rack_size own)) in
    let A = marks_tests signature_not_valid (old_marks s) (old_count s) in
    let B = marks_tests initialise_not_valid (pair_marks (new_entries s)) (new_count s) in
    let D = (not (derived (own_roll k) s) ⇒ not_derived) ∷ [] in
    let a = passes (few || fewer) too_few _ (eqb-false 16 0 refl) e in
    let b : first (A ++ (B ++ D)) ≡ accepted = ap first (sym (append_assoc A B D)) ∙ a.1 in
    let c = none_refuses A (B ++ D) (marks-numbered signature_not_valid (omega arith) (old_marks s) (old_count s)) b in
    let d = none_refuses B D (marks-numbered initialise_not_valid (omega arith) (pair_marks (new_entries s)) (new_count s)) c.1 in
    let f = passes (not (derived (own_roll k) s)) not_derived _ (eqb-false 20 0 refl) d.1 in
    let n = neither few fewer a.0 in
    record {
      olds_enough = ltb-false (old_count s) (majority (rack_size previous)) n.0;
      news_enough = ltb-false (new_count s) (majority (rack_size own)) n.1;
      olds_marked = c.0;
      news_marked = d.0;
      derives = not-false (derived (own_roll k) s) f.0;
    }

bundle_numbered : (k : Lent) (previous own s : List ℕ) → numbered (bundle_tests 0 k previous own s) ≡ true
unfolding numbered bundle_tests readiness lending
bundle_numbered k previous own s = refl

pub both_tests :
    (k : Lent) (previous own s : List ℕ) → first (bundle_tests 0 k previous own s ++ handover_tests k previous own s) ≡ accepted
    → Bundled k previous own s × Handing k previous own s
both_tests k previous own s e =
    let p = none_refuses (bundle_tests 0 k previous own s) (handover_tests k previous own s) (bundle_numbered k previous own s) e in
    (bundled 0 k previous own s p.0, handing k previous own s p.1)
