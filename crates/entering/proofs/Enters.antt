-- Laws of Initialise: what its racks give once they hold, its statement, and what it may count on where nothing refuses it. Assumes nothing.
use mathlib.Core.Path.{◌≡◌, refl, sym, ap, ◌∙◌}
use mathlib.Core.Bool.{true, false, not, cond, ◌&&◌}
use mathlib.Core.List.{List, ◌++◌}
use Prim.Native.Nat.{ℕ, ◌≤◌}
use borrow.Author.Tests.{eqb-false, not-false}
use lib.ListN.{length, take}
use lib.Dec.{eqb}
use Rattle.refusals.specs.{accepted, not_blank, out_of_order, rack_broken, rack_of_two, key_not_in_rack, roll_or_rack_alone, roll_broken}
use Rattle.refusals.specs.Order.{first}
use Rattle.refusals.proofs.Orders.{numbered, stops, goes_on, passes, lacks, lacking}
use Rattle.octets.specs.Strings.{all_zero}
use Rattle.octets.specs.Layouts.{holds}
use Rattle.rack.specs.Racks.{most, rack_bytes, rack_layout, rack_digest, is_of_two}
use Rattle.rack.proofs.RackTrips.{rack_whole}
use Rattle.rows.specs.Sizes.{table_bytes}
use Rattle.rows.proofs.Tables.{fit_length}
use Rattle.roll.specs.Roll.{roll_layout}
use Rattle.statement.specs.Kinds.{handover_size}
use Rattle.statement.specs.Contents.{handover_fits, fits_as, statement_fits}
use Rattle.rules.specs.declared.Head.{Head}
use Rattle.rules.specs.Record.{blank}
use Rattle.rules.specs.Outcomes.{Lent, lending, readiness}
use Rattle.rules.specs.Initialise.{absent, is_in_rack, initialise_refusal}
use Rattle.rules.proofs.Firsts.{ready, sound_rows}
use Rattle.entering.specs.Parts.{own_tests, old_tests, spoken, Takeable}

-- of a rack the whole is digested
pub digested : (s : List ℕ) → holds rack_layout s ≡ true → rack_digest (take (rack_bytes most) s) ≡ rack_digest s
digested s h = ap rack_digest (rack_whole s h)

-- a roll and a previous rack of which neither is alone
module _ (roll previous : List ℕ) (e : cond (absent roll) (not (absent previous)) (absent previous) ≡ false) where
  pub neither : absent roll ≡ true → absent previous ≡ true
  neither none = not-false (absent previous) (rw none at e)

  pub both : absent roll ≡ false → absent previous ≡ false
  both some = rw some at e

-- the statement of any head fits
pub spoken_fits : (h : Head) (table : List ℕ) → statement_fits (spoken h table) ≡ true
unfolding all_zero handover_fits fits_as statement_fits
spoken_fits h table = refl

-- the tests in three parts: what every call asks, the own rack, the roll with the previous rack
module _ (k : Lent) (roll previous own : List ℕ) (n : ℕ) (e : n ≡ first (readiness handover_size blank not_blank k)) where
  pub not_ready : (n ≡ accepted → ⊥) → n ≡ initialise_refusal k roll previous own
  unfolding initialise_refusal readiness lending numbered
  not_ready refuses =
      e ∙ sym (stops (readiness handover_size blank not_blank k) (own_tests k.head.key own ++ old_tests roll previous) n refl e refuses)

  module _ (accepts : n ≡ accepted) where
    is_ready : initialise_refusal k roll previous own ≡ first (own_tests k.head.key own ++ old_tests roll previous)
    unfolding initialise_refusal readiness lending numbered
    is_ready = goes_on (readiness handover_size blank not_blank k) (own_tests k.head.key own ++ old_tests roll previous) n refl e accepts

    module _ (m : ℕ) (f : m ≡ first (own_tests k.head.key own)) where
      pub own-stops : (m ≡ accepted → ⊥) → m ≡ initialise_refusal k roll previous own
      unfolding numbered
      own-stops refuses = f ∙ sym (is_ready ∙ stops (own_tests k.head.key own) (old_tests roll previous) m refl f refuses)

      pub own_passes : m ≡ accepted → initialise_refusal k roll previous own ≡ first (old_tests roll previous)
      unfolding numbered
      own_passes well = is_ready ∙ goes_on (own_tests k.head.key own) (old_tests roll previous) m refl f well

-- no test is of the order of entries
pub in_order : (k : Lent) (roll previous own : List ℕ) → eqb (initialise_refusal k roll previous own) out_of_order ≡ false
unfolding initialise_refusal readiness lending lacks
in_order k roll previous own =
    lacking out_of_order (readiness handover_size blank not_blank k ++ own_tests k.head.key own ++ old_tests roll previous) refl

-- what a keeper has been lent that nothing refuses
pub record Enterable (k : Lent) (roll previous own : List ℕ) : Type 0 where
  pub room : handover_size ≤ length k.area
  pub long : length k.table ≡ table_bytes
  pub own_holds : holds rack_layout own ≡ true
  pub old : first (old_tests roll previous) ≡ accepted

pub enterable : (k : Lent) (roll previous own : List ℕ) → initialise_refusal k roll previous own ≡ accepted → Enterable k roll previous own
unfolding initialise_refusal
enterable k roll previous own e =
    let r = ready handover_size blank not_blank k _ (eqb-false 3 0 refl) e in
    let a = passes (not (holds rack_layout own)) rack_broken _ (eqb-false 6 0 refl) r.1 in
    let d = passes (is_of_two own) rack_of_two _ (eqb-false 38 0 refl) a.1 in
    let b = passes (not (is_in_rack k.head.key own)) key_not_in_rack _ (eqb-false 7 0 refl) d.1 in
    record {
      room = r.0.room;
      long = fit_length k.head.count k.table (sound_rows k.head k.table r.0.sounds);
      own_holds = not-false (holds rack_layout own) a.0;
      old = b.1;
    }

-- where there is a roll, there is a previous rack, and both hold
pub takeable : (k : Lent) (roll previous own : List ℕ) → Enterable k roll previous own → absent roll ≡ false → Takeable k roll previous own
takeable k roll previous own m there =
    let a = passes (cond (absent roll) (not (absent previous)) (absent previous)) roll_or_rack_alone _ (eqb-false 8 0 refl) m.old in
    let b = passes (not (absent previous) && not (holds rack_layout previous)) rack_broken _ (eqb-false 6 0 refl) a.1 in
    let d = passes (not (absent roll) && not (holds roll_layout roll)) roll_broken _ (eqb-false 15 0 refl) b.1 in
    let too : absent previous ≡ false = both roll previous a.0 there in
    record {
      room = m.room;
      long = m.long;
      own_holds = m.own_holds;
      previous_holds = not-false (holds rack_layout previous) (rw too at b.0);
      roll_holds = not-false (holds roll_layout roll) (rw there at d.0);
    }
