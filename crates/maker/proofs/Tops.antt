-- The highest old row of a label: none is higher, and where some old roll has the label, one that has it is as high and has its tail. Assumes nothing.
use mathlib.Core.Path.{◌≡◌, refl, sym, ap, ◌∙◌}
use mathlib.Core.Bool.{Bool, true, false, not, cond, ◌&&◌}
use mathlib.Core.List.{List}
use Prim.Native.Nat.{ℕ, zero, suc, ◌+◌, ◌≤◌, ◌<◌}
use native.Mathlib.Decide.{dec_lt}
use native.Mathlib.Nat.{not-suc-le-zero}
use native.Mathlib.Omega.{arith}
use borrow.Author.Tests.{eq-eqb, ltb-true, ltb-false}
use lib.ListN.{length, replicate, length-replicate}
use lib.Dec.{eqb, leb, ltb}
use Rattle.octets.specs.Strings.{all_zero}
use Rattle.octets.proofs.RoundTrips.{and_right}
use Rattle.octets.proofs.Zeros.{zero_is}
use Rattle.rows.specs.Sizes.{tail_bytes, top_height}
use Rattle.rows.specs.Row.{label_of, tail_of, height_of, row_holds}
use Rattle.rows.specs.Table.{rows_fit}
use Rattle.rows.specs.Search.{find}
use Rattle.std.specs.Prelude.{Result, Ok, Err}
use Rattle.rows.proofs.Searches.{found_is, absent_is}
use Rattle.statement.specs.Cut.{no_digest}
use Rattle.rules.specs.Bundle.{old_count}
use Rattle.rules.specs.Derivation.{counted_height, counted_tail, roll_of}
use Rattle.rules.specs.Rows.{is_absent}
use Rattle.rules.proofs.FoundRows.{row_below}
use Rattle.rules.proofs.RowsParts.{tail_long}
use Rattle.maker.specs.declared.Highest.{Highest}
use Rattle.maker.specs.Rolls.{old_height, old_tail, highest_of, highest}
use Rattle.maker.proofs.Orders.{never, Place, rising_once}
use Rattle.maker.proofs.OldLabels.{RollsHold, OldLabel, row_within, row_holds_there, labels_rise, old_fits}

-- the search in a table that holds a roll
module _ (count : ℕ) (rows : List ℕ) (fit : rows_fit count rows ≡ true) where
  pub is_there : (label : List ℕ) → Place (label_of rows) count label → is_absent (find count rows label) ≡ false
  is_there label p = go (find count rows label) refl
    where
      go : (f : Result ℕ ℕ) → find count rows label ≡ f → is_absent f ≡ false
      go (Ok q) e = refl
      go (Err n) e = absurd ((absent_is count rows label n fit e).1 p.place p.below p.is)

  pub there_is : (label : List ℕ) → is_absent (find count rows label) ≡ false → Place (label_of rows) count label
  there_is label h = go (find count rows label) refl h
    where
      go : (f : Result ℕ ℕ) → find count rows label ≡ f → is_absent f ≡ false → Place (label_of rows) count label
      go (Ok q) e k = let r = found_is count rows label q fit e in record { place = q; below = r.0; is = r.1 }
      go (Err n) e k = never true refl k

  pub found_there : (label : List ℕ) (r : ℕ) → r < count → label_of rows r ≡ label → find count rows label ≡ Ok r
  found_there label r h e = go (find count rows label) refl
    where
      go : (f : Result ℕ ℕ) → find count rows label ≡ f → f ≡ Ok r
      go (Ok q) p =
          let w = found_is count rows label q fit p in
          ap Ok (rising_once (label_of rows) count (labels_rise count rows fit) q r w.0 h (w.1 ∙ sym e))
      go (Err n) p = absurd ((absent_is count rows label n fit p).1 r h e)

-- a row at height 0 has the zero tail
zero_tail : (label tail : List ℕ) (height : ℕ) → row_holds label tail height ≡ true → height ≡ 0 → all_zero tail ≡ true
unfolding row_holds
zero_tail label tail height h z =
    let last = cond (eqb height 0) (all_zero tail) true in
    let e : last ≡ true = and_right (leb height top_height) last (and_right (not (all_zero label)) (leb height top_height && last) h) in
    rw (eq-eqb height 0 z) at e

-- old roll i has no row of the label
abbrev pub missing : List ℕ → List ℕ → ℕ → Bool
missing e label i = is_absent (find (roll_of e i).count (roll_of e i).rows label)

-- an old entry whose row of a label has such a height and tail
pub record Top (e label : List ℕ) (n : ℕ) (h : Highest) : Type 0 where
  pub entry : ℕ
  pub below : entry < n
  pub height_is : old_height e label entry ≡ h.height
  pub tail_is : old_tail e label entry ≡ h.tail

-- an old roll that has the label, with the highest row
pub record HeldHighest (e label : List ℕ) : Type 0 where
  pub entry : ℕ
  pub entry_is : entry < old_count e
  pub there : missing e label entry ≡ false
  pub height_is : old_height e label entry ≡ (highest e label).height
  pub tail_is : old_tail e label entry ≡ (highest e label).tail

module _ (e : List ℕ) (held : RollsHold e) (label : List ℕ) where
  pub held-label : (i : ℕ) → i < old_count e → missing e label i ≡ false → OldLabel e label
  held-label i h k =
      let p = there_is (roll_of e i).count (roll_of e i).rows (old_fits e held i h) label k in
      record { entry = i; entry_is = h; row = p.place; row_is = p.below; label_is = p.is }

  pub label-held : (o : OldLabel e label) → missing e label o.entry ≡ false
  label-held o =
      is_there (roll_of e o.entry).count (roll_of e o.entry).rows (old_fits e held o.entry o.entry_is) label
      (record { place = o.row; below = o.row_is; is = o.label_is })

  -- what the row has that an old roll has, or counts as having
  pub old_missing : (i : ℕ) → missing e label i ≡ true → (old_height e label i ≡ 0) × (old_tail e label i ≡ no_digest)
  unfolding old_height old_tail
  old_missing i h = go (find (roll_of e i).count (roll_of e i).rows label) h
    where
      go : (f : Result ℕ ℕ) → is_absent f ≡ true → (counted_height (roll_of e i) f ≡ 0) × (counted_tail (roll_of e i) f ≡ no_digest)
      go (Ok q) k = never false k refl
      go (Err n) k = (refl, refl)

  pub old_there : (i : ℕ) → 0 < old_height e label i → missing e label i ≡ false
  old_there i h = go (missing e label i) refl
    where
      go : (b : Bool) → missing e label i ≡ b → missing e label i ≡ false
      go true p = absurd (omega (arith, (old_missing i p).0))
      go false p = p

  module _ (i : ℕ) (h : i < old_count e) where
    fit : rows_fit (roll_of e i).count (roll_of e i).rows ≡ true
    fit = old_fits e held i h

    pub old_tail_long : length (old_tail e label i) ≡ tail_bytes
    unfolding old_tail
    old_tail_long = go (find (roll_of e i).count (roll_of e i).rows label) refl
      where
        go : (f : Result ℕ ℕ) → find (roll_of e i).count (roll_of e i).rows label ≡ f → length (counted_tail (roll_of e i) f) ≡ tail_bytes
        go (Ok q) p =
            let r = found_is (roll_of e i).count (roll_of e i).rows label q fit p in
            tail_long (roll_of e i).rows q (row_within (roll_of e i).count (roll_of e i).rows fit q r.0)
        go (Err n) p = length-replicate {A = ℕ} tail_bytes 0

    pub old_height_low : old_height e label i ≤ top_height
    unfolding old_height
    old_height_low = go (find (roll_of e i).count (roll_of e i).rows label) refl
      where
        go : (f : Result ℕ ℕ) → find (roll_of e i).count (roll_of e i).rows label ≡ f → counted_height (roll_of e i) f ≤ top_height
        go (Ok q) p =
            let r = found_is (roll_of e i).count (roll_of e i).rows label q fit p in
            row_below (label_of (roll_of e i).rows q) (tail_of (roll_of e i).rows q) (height_of (roll_of e i).rows q)
            (row_holds_there (roll_of e i).count (roll_of e i).rows fit q r.0)
        go (Err n) p = omega arith

    pub old_zero : old_height e label i ≡ 0 → old_tail e label i ≡ no_digest
    unfolding old_height old_tail
    old_zero z = go (find (roll_of e i).count (roll_of e i).rows label) refl z
      where
        go :
            (f : Result ℕ ℕ) → find (roll_of e i).count (roll_of e i).rows label ≡ f → counted_height (roll_of e i) f ≡ 0
            → counted_tail (roll_of e i) f ≡ no_digest
        go (Ok q) p z =
            let r = found_is (roll_of e i).count (roll_of e i).rows label q fit p in
            let tail = tail_of (roll_of e i).rows q in
            let row = row_holds_there (roll_of e i).count (roll_of e i).rows fit q r.0 in
            let long = tail_long (roll_of e i).rows q (row_within (roll_of e i).count (roll_of e i).rows fit q r.0) in
            zero_is tail (zero_tail (label_of (roll_of e i).rows q) tail (height_of (roll_of e i).rows q) row z) ∙ ap (λ (n : ℕ). replicate n 0) long
        go (Err n) p z = refl

  -- the highest of the first n
  taken : ℕ → Bool → Highest
  taken n b = cond b (record { height = old_height e label n; tail = old_tail e label n }) (highest_of e label n)

  of_most : (n i : ℕ) → i < n → old_height e label i ≤ (highest_of e label n).height
  unfolding highest_of taken
  of_most zero i h = absurd (not-suc-le-zero h)
  of_most (suc n) i h = go (of_most n i) (ltb (highest_of e label n).height (old_height e label n)) refl (dec_lt i n)
    where
      go :
          (i < n → old_height e label i ≤ (highest_of e label n).height) → (b : Bool) → ltb (highest_of e label n).height (old_height e label n) ≡ b
          → Dec (i < n) → old_height e label i ≤ (taken n b).height
      go earlier true p (yes l) = omega (arith, earlier l, ltb-true (highest_of e label n).height (old_height e label n) p)
      go earlier true p (no l) = let r : i ≡ n = omega arith in rw r (omega arith)
      go earlier false p (yes l) = earlier l
      go earlier false p (no l) =
          let r : i ≡ n = omega arith in rw r (ltb-false (highest_of e label n).height (old_height e label n) p)

  of_top : (n : ℕ) → 0 < (highest_of e label n).height → Top e label n (highest_of e label n)
  unfolding highest_of taken
  of_top zero h = absurd (omega arith)
  of_top (suc n) h = go (of_top n) (ltb (highest_of e label n).height (old_height e label n)) h
    where
      go :
          (0 < (highest_of e label n).height → Top e label n (highest_of e label n)) → (b : Bool) → 0 < (taken n b).height
          → Top e label (suc n) (taken n b)
      go earlier true k = record { entry = n; below = omega arith; height_is = refl; tail_is = refl }
      go earlier false k =
          let t = earlier k in
          record { entry = t.entry; below = omega (arith, t.below); height_is = t.height_is; tail_is = t.tail_is }

  of_zero : (n : ℕ) → (highest_of e label n).height ≡ 0 → (highest_of e label n).tail ≡ no_digest
  unfolding highest_of taken
  of_zero zero z = refl
  of_zero (suc n) z = go (of_zero n) (ltb (highest_of e label n).height (old_height e label n)) refl z
    where
      go :
          ((highest_of e label n).height ≡ 0 → (highest_of e label n).tail ≡ no_digest) → (b : Bool)
          → ltb (highest_of e label n).height (old_height e label n) ≡ b → (taken n b).height ≡ 0 → (taken n b).tail ≡ no_digest
      go earlier true p z = absurd (omega (arith, ltb-true (highest_of e label n).height (old_height e label n) p))
      go earlier false p z = earlier z

  of_either :
      (P : Highest → Type 0) → P (record { height = 0; tail = no_digest })
      → ((i : ℕ) → i < old_count e → P (record { height = old_height e label i; tail = old_tail e label i })) → (n : ℕ) → n ≤ old_count e
      → P (highest_of e label n)
  unfolding highest_of taken
  of_either P none one zero h = none
  of_either P none one (suc n) h = go (of_either P none one n (omega arith)) (ltb (highest_of e label n).height (old_height e label n))
    where
      go : P (highest_of e label n) → (b : Bool) → P (taken n b)
      go earlier true = one n (omega arith)
      go earlier false = earlier

  -- the highest of all
  pub highest_most : (i : ℕ) → i < old_count e → old_height e label i ≤ (highest e label).height
  unfolding highest
  highest_most i h = of_most (old_count e) i h

  pub highest_zero : (highest e label).height ≡ 0 → (highest e label).tail ≡ no_digest
  unfolding highest
  highest_zero z = of_zero (old_count e) z

  pub highest_low : (highest e label).height ≤ top_height
  unfolding highest
  highest_low = of_either (λ (h : Highest). h.height ≤ top_height) (omega arith) (λ i h. old_height_low i h) (old_count e) (omega arith)

  pub highest_long : length (highest e label).tail ≡ tail_bytes
  unfolding highest
  highest_long =
      of_either (λ (h : Highest). length h.tail ≡ tail_bytes) (length-replicate {A = ℕ} tail_bytes 0) (λ i h. old_tail_long i h) (old_count e) (omega arith)

  pub highest_held : OldLabel e label → HeldHighest e label
  unfolding highest
  highest_held o = go (dec_lt 0 (highest e label).height)
    where
      go : Dec (0 < (highest e label).height) → HeldHighest e label
      go (yes h) =
          let t = of_top (old_count e) h in
          record {
            entry = t.entry;
            entry_is = t.below;
            there = old_there t.entry (omega (arith, t.height_is));
            height_is = t.height_is;
            tail_is = t.tail_is;
          }
      go (no h) =
          let z : (highest e label).height ≡ 0 = omega arith in
          let low : old_height e label o.entry ≡ 0 = omega (arith, highest_most o.entry o.entry_is) in
          record {
            entry = o.entry;
            entry_is = o.entry_is;
            there = label-held o;
            height_is = low ∙ sym z;
            tail_is = old_zero o.entry o.entry_is low ∙ sym (highest_zero z);
          }
