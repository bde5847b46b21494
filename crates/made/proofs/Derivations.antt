-- What a derived roll has, told by the entries before the lists: each old label is its own, each old row is led to its row, and some old row is it.
-- Assumes nothing.
use mathlib.Core.Path.{◌≡◌, refl, sym, ap, subst, ◌∙◌}
use mathlib.Core.Bool.{Bool, true, false, not, ◌&&◌, ◌||◌}
use mathlib.Core.List.{List}
use Prim.Native.Nat.{ℕ, zero, suc, ◌+◌, ◌≤◌, ◌<◌}
use native.Mathlib.Omega.{arith}
use borrow.Author.Tests.{eqb-true}
use lib.ListN.{length, take}
use lib.Seq.{take-take}
use lib.Dec.{eqb}
use Rattle.octets.specs.Strings.{same}
use Rattle.octets.proofs.RoundTrips.{and_left, and_right, same_is}
use Rattle.rows.specs.Row.{label_of, tail_of, height_of}
use Rattle.rows.specs.Table.{each, rows_fit}
use Rattle.rows.proofs.Tables.{each_of}
use Rattle.roll.specs.Roll.{Roll}
use Rattle.rules.specs.Rows.{is_absent}
use Rattle.rules.specs.Bundle.{old_count, list_at, list_of, added, digests}
use Rattle.rules.specs.Derivation.{some, row_in, no_more, grown, counted_height, counted_tail, row_derived, roll_of, roll_derived}
use Rattle.rules.specs.Derivation.{has_row, had_elsewhere, kept_by_some, derived}
use Rattle.rules.proofs.Somes.{some_witness}
use Rattle.maker.specs.Rolls.{old_height, old_tail}
use Rattle.maker.proofs.Orders.{Place}
use Rattle.maker.proofs.Tops.{there_is, missing}
use Rattle.made.proofs.Fronts.{count_alike, roll_alike}

not_so : (b : Bool) → not b ≡ true → b ≡ false
not_so false e = refl
not_so true e = sym e

module _ (e : List ℕ) (ours : Roll) (s : List ℕ) (within : list_at s 0 ≤ length s) (front : take (list_at s 0) s ≡ e) where
  pub agree : take (list_at s 0) s ≡ take (list_at s 0) e
  agree = sym (take-take (list_at s 0) (list_at s 0) s (omega arith)) ∙ ap (take (list_at s 0)) front

  pub same_count : old_count e ≡ old_count s
  same_count = count_alike s e (list_at s 0) agree (omega arith)

  pub same_roll : (i : ℕ) → i < old_count s → roll_of e i ≡ roll_of s i
  same_roll i h = roll_alike s e (list_at s 0) agree (omega arith) i h

  module _ (d : derived ours s ≡ true) where
    rolls : Bool
    rolls = each (roll_derived ours s) (old_count s)

    had : Bool
    had = each (had_elsewhere ours s) (old_count s)

    kept : Bool
    kept = each (kept_by_some ours s) ours.count

    each_roll : each (roll_derived ours s) (old_count s) ≡ true
    unfolding derived rolls had kept
    each_roll = and_left rolls had (and_left (rolls && had) kept d)

    each-kept : each (kept_by_some ours s) ours.count ≡ true
    unfolding derived rolls had kept
    each-kept = and_right (rolls && had) kept d

    -- row r of ours, from old entry i
    abbrev led : ℕ → ℕ → Bool
    led i r = row_derived ours (roll_of s i) r (digests s (list_of ours.count i r)) (added s (list_of ours.count i r))

    module _ (i : ℕ) (h : i < old_count s) where
      this_roll : (no_more ours (roll_of s i) && each (led i) ours.count) ≡ true
      unfolding roll_derived
      this_roll = each_of (roll_derived ours s) (old_count s) i h each_roll

      -- "no more"
      pub is_ours :
          rows_fit ours.count ours.rows ≡ true → (q : ℕ) → q < (roll_of e i).count
          → Place (label_of ours.rows) ours.count (label_of (roll_of e i).rows q)
      unfolding no_more
      is_ours fit q l =
          let more = and_left (no_more ours (roll_of s i)) (each (led i) ours.count) this_roll in
          let same_is_it = same_roll i h in
          let k : q < (roll_of s i).count = subst (λ (o : Roll). q < o.count) same_is_it l in
          let a = each_of (λ q. not (is_absent (row_in ours (roll_of s i) q))) (roll_of s i).count q k more in
          there_is ours.count ours.rows fit (label_of (roll_of e i).rows q)
          (not_so _ (subst (λ (o : Roll). not (is_absent (row_in ours o q)) ≡ true) (sym same_is_it) a))

      -- "its height plus the count equals ours and appending the listed digests to its tail gives our tail"
      pub leads_on :
          (r : ℕ) → r < ours.count
          → (old_height e (label_of ours.rows r) i + added s (list_of ours.count i r) ≡ height_of ours.rows r)
          × (grown (old_tail e (label_of ours.rows r) i) (digests s (list_of ours.count i r)) (added s (list_of ours.count i r))
          ≡ tail_of ours.rows r)
      unfolding row_derived old_height old_tail
      leads_on r l =
          let n = added s (list_of ours.count i r) in
          let ds = digests s (list_of ours.count i r) in
          let a : Roll → Bool = λ o. eqb (counted_height o (row_in o ours r) + n) (height_of ours.rows r) in
          let b : Roll → Bool = λ o. same (grown (counted_tail o (row_in o ours r)) ds n) (tail_of ours.rows r) in
          let row = each_of (led i) ours.count r l (and_right (no_more ours (roll_of s i)) (each (led i) ours.count) this_roll) in
          let o = roll_of e i in
          let t : (a o && b o) ≡ true = subst (λ (o : Roll). (a o && b o) ≡ true) (sym (same_roll i h)) row in (
            eqb-true (counted_height o (row_in o ours r) + n) (height_of ours.rows r) (and_left (a o) (b o) t),
            same_is (grown (counted_tail o (row_in o ours r)) ds n) (tail_of ours.rows r) (and_right (a o) (b o) t),
          )

    -- an old entry that has row r of ours and adds none to it
    pub record Kept (r : ℕ) : Type 0 where
      pub entry : ℕ
      pub below : entry < old_count s
      pub has : missing e (label_of ours.rows r) entry ≡ false
      pub none : added s (list_of ours.count entry r) ≡ 0

    pub kept_row : (r : ℕ) → r < ours.count → Kept r
    unfolding kept_by_some
    kept_row r l =
        let w = some_witness _ (old_count s) (each_of (kept_by_some ours s) ours.count r l each-kept) in
        let i = w.which in
        let p = has_row ours s r i in
        let z = eqb (added s (list_of ours.count i r)) 0 in
        record {
          entry = i;
          below = w.below;
          has = subst (λ (o : Roll). is_absent (row_in o ours r) ≡ false) (sym (same_roll i w.below)) (not_so _ (and_left p z w.holds));
          none = eqb-true (added s (list_of ours.count i r)) 0 (and_right p z w.holds);
        }
