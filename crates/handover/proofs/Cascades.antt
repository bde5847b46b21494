-- Laws of the tests of both calls in their order: which part decides, and what is known where none refuses. Assumes nothing.
use mathlib.Core.Path.{◌≡◌, refl, sym, ap, ◌∙◌}
use mathlib.Core.Bool.{true, false, not}
use mathlib.Core.List.{List, [], ◌∷◌, ◌++◌, append-nil}
use Prim.Native.Nat.{ℕ, ◌≤◌, ◌<◌}
use native.Mathlib.Omega.{arith}
use borrow.Author.Tests.{lt-ltb, le-ltb, eqb-false, ltb-true, not-false}
use lib.ListN.{length}
use lib.Dec.{eqb, ltb}
use Rattle.refusals.specs.{accepted, out_of_order, not_prepared, rack_broken, digest_differs, list_broken, roll_broken, not_derived}
use Rattle.refusals.specs.Order.{Test, ◌⇒◌, first}
use Rattle.refusals.proofs.Orders.{numbered, passes, stops, goes_on, none_refuses, lacks, lacking}
use Rattle.octets.specs.Layouts.{holds}
use Rattle.rack.specs.Racks.{rack_layout}
use Rattle.rows.specs.Table.{each, rows_fit}
use Rattle.rows.proofs.Tables.{fit_count}
use Rattle.statement.specs.Kinds.{handover_size}
use Rattle.rules.specs.declared.Head.{Head}
use Rattle.rules.specs.Record.{prepared}
use Rattle.rules.specs.Outcomes.{Lent, lending, readiness}
use Rattle.rules.specs.Bundle.{old_count, bundle_fits}
use Rattle.rules.specs.Derivation.{derived}
use Rattle.rules.specs.Activate.{rack_size, own_roll, racks_differ, bundle_tests, handover_tests}
use Rattle.rules.specs.Check.{entries_of}
use Rattle.rules.proofs.Firsts.{ready, sound_rows}
use Rattle.bundle.proofs.Places.{bundle_short, bundle_ends}
use Rattle.entries.specs.Asked.{attended_tests}
use Rattle.entries.proofs.Attended.{attended_numbered, attended_lack}
use Rattle.handover.specs.Asked.{rack_tests, entry_test, activate_refusal, check_refusal, roll_held, Laid, Shown}

-- readiness, the racks, and the bundle's string with its rolls
module _ (size : ℕ) (k : Lent) (previous own s : List ℕ) where
  abbrev pub string_tests : List Test
  string_tests =
      (not (bundle_fits (rack_size previous) (rack_size own) k.head.count s) ⇒ list_broken)
      ∷ (not (each (roll_held s) (old_count s)) ⇒ roll_broken)
      ∷ []

  abbrev asked : List Test
  asked = readiness size prepared not_prepared k

  abbrev shown_tests : List Test
  shown_tests = rack_tests k.head previous own

  bundle_parts : bundle_tests size k previous own s ≡ asked ++ (shown_tests ++ string_tests)
  unfolding bundle_tests rack_tests
  bundle_parts = refl

  asked-numbered : numbered asked ≡ true
  unfolding readiness lending numbered
  asked-numbered = refl

  racks_numbered : numbered shown_tests ≡ true
  unfolding rack_tests numbered
  racks_numbered = refl

  pub bundle_numbered : numbered (bundle_tests size k previous own s) ≡ true
  unfolding bundle_tests readiness lending numbered
  bundle_numbered = refl

  pub unready_refuses : (n : ℕ) → n ≡ first asked → (n ≡ accepted → ⊥) → n ≡ first (bundle_tests size k previous own s)
  unready_refuses n e r = e ∙ sym (ap first bundle_parts ∙ stops asked (shown_tests ++ string_tests) n asked-numbered e r)

  module _ (e : first asked ≡ accepted) where
    pub racks_refuse : (m : ℕ) → m ≡ first shown_tests → (m ≡ accepted → ⊥) → m ≡ first (bundle_tests size k previous own s)
    racks_refuse m f r =
        f
        ∙ sym (ap first bundle_parts ∙ goes_on asked (shown_tests ++ string_tests) accepted asked-numbered (sym e) refl ∙ stops shown_tests string_tests m racks_numbered f r)

    pub string_decides : first shown_tests ≡ accepted → first (bundle_tests size k previous own s) ≡ first string_tests
    string_decides f =
        ap first bundle_parts ∙ goes_on asked (shown_tests ++ string_tests) accepted asked-numbered (sym e) refl ∙ goes_on shown_tests string_tests accepted racks_numbered (sym f) refl

  -- the tests after them
  module _ (us : List Test) where
    pub bundle_refuses : (n : ℕ) → n ≡ first (bundle_tests size k previous own s) → (n ≡ accepted → ⊥) → n ≡ first (bundle_tests size k previous own s ++ us)
    bundle_refuses n e r = e ∙ sym (stops (bundle_tests size k previous own s) us n bundle_numbered e r)

    pub bundle_passes : first (bundle_tests size k previous own s) ≡ accepted → first (bundle_tests size k previous own s ++ us) ≡ first us
    bundle_passes e = goes_on (bundle_tests size k previous own s) us accepted bundle_numbered (sym e) refl

  pub ready_rows : first asked ≡ accepted → rows_fit k.head.count k.table ≡ true
  ready_rows e = sound_rows k.head k.table (ready size prepared not_prepared k [] (eqb-false 5 0 refl) (ap first (append-nil asked) ∙ e)).0.sounds

  -- what is known where none of them refuses
  pub shown : first (bundle_tests size k previous own s) ≡ accepted → Shown k.head k.table previous own s × (size ≤ length k.area)
  unfolding rack_tests
  shown e =
      let r = ready size prepared not_prepared k (shown_tests ++ string_tests) (eqb-false 5 0 refl) (sym (ap first bundle_parts) ∙ e) in
      let a = passes (not (holds rack_layout previous)) rack_broken _ (eqb-false 6 0 refl) r.1 in
      let b = passes (not (holds rack_layout own)) rack_broken _ (eqb-false 6 0 refl) a.1 in
      let c = passes (racks_differ k.head previous own) digest_differs _ (eqb-false 21 0 refl) b.1 in
      let fits = bundle_fits (rack_size previous) (rack_size own) k.head.count s in
      let d = passes (not fits) list_broken _ (eqb-false 22 0 refl) c.1 in
      let f = passes (not (each (roll_held s) (old_count s))) roll_broken _ (eqb-false 15 0 refl) d.1 in (
        record {
          rows = sound_rows k.head k.table r.0.sounds;
          before = not-false (holds rack_layout previous) a.0;
          mine = not-false (holds rack_layout own) b.0;
          fits = not-false fits d.0;
          rolls = not-false (each (roll_held s) (old_count s)) f.0;
        },
        r.0.room,
      )

  -- Bytes to check has one test more
  pub listed :
      (list i : ℕ) → first (bundle_tests size k previous own s ++ entry_test s list i) ≡ accepted
      → (first (bundle_tests size k previous own s) ≡ accepted) × (i < entries_of s list)
  listed list i e =
      let p = none_refuses (bundle_tests size k previous own s) (entry_test s list i) bundle_numbered e in
      let q = passes (not (ltb i (entries_of s list))) list_broken [] (eqb-false 22 0 refl) p.1 in
      (p.0, ltb-true i (entries_of s list) (not-false (ltb i (entries_of s list)) q.0))

pub racks_hold : (h : Head) (previous own : List ℕ) → first (rack_tests h previous own) ≡ accepted → (holds rack_layout previous ≡ true) × (holds rack_layout own ≡ true)
unfolding rack_tests
racks_hold h previous own e =
    let a = passes (not (holds rack_layout previous)) rack_broken _ (eqb-false 6 0 refl) e in
    let b = passes (not (holds rack_layout own)) rack_broken _ (eqb-false 6 0 refl) a.1 in
    (not-false (holds rack_layout previous) a.0, not-false (holds rack_layout own) b.0)

-- a bundle's parts lie within it
pub laid : {h : Head} {table previous own s : List ℕ} → Shown h table previous own s → Laid h.count s
laid {h} {table} {previous} {own} {s} k =
    record {
      few = fit_count h.count table k.rows;
      ends = omega (arith, bundle_ends (rack_size previous) (rack_size own) h.count s k.fits);
      short = bundle_short (rack_size previous) (rack_size own) h.count s k.fits;
    }

-- what stands behind the bundle, and the roll
module _ (k : Lent) (previous own s : List ℕ) where
  abbrev pub roll_test : List Test
  roll_test = (not (derived (own_roll k) s) ⇒ not_derived) ∷ []

  handover_parts : handover_tests k previous own s ≡ attended_tests previous own s ++ roll_test
  unfolding handover_tests attended_tests
  handover_parts = refl

  pub attended_refuse : (n : ℕ) → n ≡ first (attended_tests previous own s) → (n ≡ accepted → ⊥) → n ≡ first (handover_tests k previous own s)
  attended_refuse n e r =
      e ∙ sym (ap first handover_parts ∙ stops (attended_tests previous own s) roll_test n (attended_numbered previous own s) e r)

  pub roll_decides : first (attended_tests previous own s) ≡ accepted → first (handover_tests k previous own s) ≡ first roll_test
  roll_decides e =
      ap first handover_parts ∙ goes_on (attended_tests previous own s) roll_test accepted (attended_numbered previous own s) (sym e) refl

  -- no refusal of Activate shows a height
  pub activate_other : eqb (activate_refusal k previous own s) out_of_order ≡ false
  unfolding bundle_tests handover_tests attended_tests readiness lending lacks
  activate_other =
      lacking out_of_order (bundle_tests 0 k previous own s ++ handover_tests k previous own s) (attended_lack previous own s roll_test refl)

-- where nothing that both calls ask refuses, the entry decides
module _ (k : Lent) (previous own s : List ℕ) (list i : ℕ) (e : first (bundle_tests handover_size k previous own s) ≡ accepted) where
  pub entry_refuses : entries_of s list ≤ i → check_refusal k previous own s list i ≡ list_broken
  unfolding first
  entry_refuses h = bundle_passes handover_size k previous own s (entry_test s list i) e ∙ rw (le-ltb i (entries_of s list) h)

  pub entry_passes : i < entries_of s list → check_refusal k previous own s list i ≡ accepted
  unfolding first
  entry_passes h = bundle_passes handover_size k previous own s (entry_test s list i) e ∙ rw (lt-ltb i (entries_of s list) h)

-- nor does one of Bytes to check show a height
pub check_other : (k : Lent) (previous own s : List ℕ) (list i : ℕ) → eqb (check_refusal k previous own s list i) out_of_order ≡ false
unfolding bundle_tests readiness lending lacks
check_other k previous own s list i = lacking out_of_order (bundle_tests handover_size k previous own s ++ entry_test s list i) refl
