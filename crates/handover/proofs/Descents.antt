-- Laws of a roll that is derived from that of an old entry, or is not, as a walk over both finds it, and of where the entry's lists end then. Assumes nothing.
use mathlib.Core.Path.{◌≡◌, refl, sym, ap, ◌∙◌}
use mathlib.Core.Bool.{Bool, true, false, ◌&&◌}
use mathlib.Core.List.{List}
use Prim.Native.Nat.{ℕ, ◌+◌, ◌<◌, ◌≤◌}
use native.Mathlib.Omega.{arith}
use borrow.Author.Tests.{eqb-true, eqb-false}
use lib.Dec.{eqb}
use Rattle.std.specs.Prelude.{Some, None}
use Rattle.std.specs.Bool.{then_some}
use Rattle.std.specs.Int.{from_bool}
use Rattle.octets.proofs.RoundTrips.{and_left, holds_fits}
use Rattle.rows.specs.Table.{each, rows_fit}
use Rattle.rows.proofs.Tables.{and_false, each_fails}
use Rattle.roll.specs.Roll.{Roll, roll_layout}
use Rattle.rules.specs.Bundle.{old_roll, list_at, list_of, added, digests}
use Rattle.rules.specs.Derivation.{no_more, roll_of, roll_derived}
use Rattle.rules.proofs.Somes.{each_same}
use Rattle.bundle.proofs.Listed.{then_none, then_is}
use Rattle.derivation.specs.Walk.{after, passed, met, derived_from}
use Rattle.derivation.proofs.Walks.{all_passed, met_has, met_derives, passes_all}
use Rattle.handover.specs.Asked.{roll_held, led, led_to, keeps}

-- row r of ours is derived by what old entry i lists from the row of an old roll that is next, or from nothing
abbrev pub walked : Roll → Roll → List ℕ → ℕ → ℕ → Bool
walked ours old s i r =
    derived_from old (passed old ours.rows r) (met old ours.rows r) ours.rows r
    (digests s (list_of ours.count i r)) (added s (list_of ours.count i r))

-- the row of an old roll that is next has the label of row r of ours, and old entry i lists no digests for it
abbrev pub keeps_next : Roll → Roll → List ℕ → ℕ → ℕ → Bool
keeps_next ours old s i r = met old ours.rows r && eqb (added s (list_of ours.count i r)) 0

-- the walk goes on by one where the row is there
pub one_on : (t : Bool) (q n : ℕ) → n ≡ from_bool t → (n ≤ 1) × (q + n ≡ after q t)
unfolding after
one_on true q n e = let z : n ≡ 1 = e in (omega arith, omega arith)
one_on false q n e = let z : n ≡ 0 = e in (omega arith, omega arith)

module _ (ours : Roll) (s : List ℕ) (i : ℕ) where
  pub more_labels : no_more ours (roll_of s i) ≡ false → roll_derived ours s i ≡ false
  unfolding roll_derived
  more_labels e = rw e

  pub a_row_fails : each (led ours (roll_of s i) s i) ours.count ≡ false → roll_derived ours s i ≡ false
  unfolding roll_derived
  a_row_fails e = and_false (no_more ours (roll_of s i)) e

  pub rows_lead : no_more ours (roll_of s i) ≡ true → each (led ours (roll_of s i) s i) ours.count ≡ true → roll_derived ours s i ≡ true
  unfolding roll_derived
  rows_lead n e = rw (n, e)

  pub led_by : (d : Bool) → roll_derived ours s i ≡ d → led_to ours s i ≡ then_some d (list_at s (list_of ours.count i ours.count))
  unfolding led_to
  led_by d e = rw e

  pub led_none : None ≡ led_to ours s i → roll_derived ours s i ≡ false
  led_none e = then_none _ _ (e ∙ led_by _ refl)

  pub led_some : (end : ℕ) → Some end ≡ led_to ours s i → (roll_derived ours s i ≡ true) × (end ≡ list_at s (list_of ours.count i ours.count))
  led_some end e = then_is _ _ _ (e ∙ led_by _ refl)

  -- where both rolls are in label order
  module _ (fit : rows_fit ours.count ours.rows ≡ true) (held : roll_held s i ≡ true) where
    pub old_fit : rows_fit (roll_of s i).count (roll_of s i).rows ≡ true
    unfolding roll_layout
    old_fit = holds_fits roll_layout (old_roll s i) held

    -- a step that does not lead on decides
    pub step_fails : (r : ℕ) → r < ours.count → walked ours (roll_of s i) s i r ≡ false → roll_derived ours s i ≡ false
    step_fails r h e = go (no_more ours (roll_of s i)) refl
      where
        go : (b : Bool) → no_more ours (roll_of s i) ≡ b → roll_derived ours s i ≡ false
        go false p = more_labels p
        go true p =
            a_row_fails (each_fails (led ours (roll_of s i) s i) ours.count r h (sym (met_derives (roll_of s i) ours old_fit fit p r h _ _) ∙ e))

    -- so does a walk that does not come to the old roll's end
    pub end_fails : (passed (roll_of s i) ours.rows ours.count ≡ (roll_of s i).count → ⊥) → roll_derived ours s i ≡ false
    end_fails n = go (no_more ours (roll_of s i)) refl
      where
        go : (b : Bool) → no_more ours (roll_of s i) ≡ b → roll_derived ours s i ≡ false
        go false p = more_labels p
        go true p = absurd (n (passes_all (roll_of s i) ours old_fit fit p))

    pub walk_leads :
        passed (roll_of s i) ours.rows ours.count ≡ (roll_of s i).count → each (walked ours (roll_of s i) s i) ours.count ≡ true
        → roll_derived ours s i ≡ true
    walk_leads n e =
        let p = all_passed (roll_of s i) ours old_fit fit n in
        rows_lead p
        (sym
        (each_same (walked ours (roll_of s i) s i) (led ours (roll_of s i) s i) ours.count (λ r h. met_derives (roll_of s i) ours old_fit fit p r h _ _))
        ∙ e)

    -- where each step leads on, the walk's end decides
    pub ends_decide :
        each (walked ours (roll_of s i) s i) ours.count ≡ true
        → eqb (passed (roll_of s i) ours.rows ours.count) (roll_of s i).count ≡ roll_derived ours s i
    ends_decide e = go (eqb (passed (roll_of s i) ours.rows ours.count) (roll_of s i).count) refl
      where
        go : (b : Bool) → eqb (passed (roll_of s i) ours.rows ours.count) (roll_of s i).count ≡ b → b ≡ roll_derived ours s i
        go true t = sym (walk_leads (eqb-true _ _ t) e)
        go false t = sym (end_fails (eqb-false _ _ t))

    pub walk_keeps : roll_derived ours s i ≡ true → (r : ℕ) → r < ours.count → keeps_next ours (roll_of s i) s i r ≡ keeps ours (roll_of s i) s i r
    unfolding roll_derived
    walk_keeps d r h =
        let p = and_left (no_more ours (roll_of s i)) (each (led ours (roll_of s i) s i) ours.count) d in
        ap (λ (b : Bool). b && eqb (added s (list_of ours.count i r)) 0) (met_has (roll_of s i) ours old_fit fit p r h)
