-- Laws of two rolls in label order that are looked through together: where the labels of the old one are ours, the row that is next is the one that a search
-- finds, and the walk comes to the end of the old roll; otherwise it does not. Assumes nothing.
use mathlib.Core.Path.{◌≡◌, refl, sym, ap, ap₂, ◌∙◌}
use mathlib.Core.Bool.{Bool, true, false, not, cond, ◌&&◌, true≢false}
use mathlib.Core.List.{List}
use Prim.Native.Nat.{ℕ, zero, suc, ◌+◌, ◌<◌, ◌≤◌}
use native.Mathlib.Decide.{dec_lt}
use native.Mathlib.Nat.{not-suc-le-zero}
use native.Mathlib.Numerals.{add-one}
use native.Mathlib.Omega.{arith}
use borrow.Author.Tests.{ltb-true, lt-ltb}
use lib.Dec.{eqb, ltb}
use Rattle.octets.specs.Strings.{same, before}
use Rattle.octets.proofs.Orders.{before_self, before_trans}
use Rattle.octets.proofs.RoundTrips.{and_left, and_right, same_is, same_refl}
use Rattle.rows.specs.Row.{label_of, tail_of, height_of}
use Rattle.rows.specs.Table.{rows_fit}
use Rattle.std.specs.Prelude.{Option, Result, Ok, Err}
use Rattle.std.specs.Bool.{then_some}
use Rattle.std.specs.Option.{IfSome, is_some, unwrap_or}
use Rattle.rows.proofs.Tables.{each_of}
use Rattle.rows.proofs.Searches.{found_is, absent_is}
use Rattle.rows.proofs.InOrder.{in_order}
use Rattle.roll.specs.Roll.{Roll}
use Rattle.rules.specs.Rows.{is_absent}
use Rattle.rules.specs.Derivation.{row_in, no_more, grown, counted_height, counted_tail, row_derived}
use Rattle.rules.proofs.Somes.{each_all}
use Rattle.derivation.specs.Walk.{is_next, after, passed, met, derived_from}

-- a string that comes before another is not that, and does not come after it
apart : (a b : List ℕ) → before a b ≡ true → a ≡ b → ⊥
apart a b h e = true≢false (sym h ∙ ap (λ (s : List ℕ). before s b) e ∙ before_self b)

one_way : (a b : List ℕ) → before a b ≡ true → before b a ≡ true → ⊥
one_way a b h k = apart a a (before_trans a b a h k) refl

module _ (old : Roll) (q : ℕ) (label : List ℕ) where
  pub next_is : is_next old q label ≡ true → (q < old.count) × (label_of old.rows q ≡ label)
  unfolding is_next
  next_is e =
      let there = ltb q old.count in
      let has = same (label_of old.rows q) label in
      (ltb-true q old.count (and_left there has e), same_is (label_of old.rows q) label (and_right there has e))

  is_there : q < old.count → label_of old.rows q ≡ label → is_next old q label ≡ true
  unfolding is_next
  is_there h e = rw (lt-ltb q old.count h, e) (same_refl label)

-- what the walk hands on of the next row: itself where it has the label
pub old_there : (t : Bool) (q : ℕ) (o : Option ℕ) → o ≡ then_some t q → is_some o ≡ t
old_there true q o e = ap is_some e
old_there false q o e = ap is_some e

module _ (old : Roll) (q : ℕ) (label : List ℕ) (o : Option ℕ) (e : o ≡ then_some (is_next old q label) q) where
  pub old_within : IfSome o (λ j. j < old.count)
  old_within = rw e (go (is_next old q label) refl)
    where
      go : (t : Bool) → is_next old q label ≡ t → IfSome (then_some t q) (λ j. j < old.count)
      go true f = (next_is old q label f).0
      go false f = tt

  pub old_from :
      (ours : List ℕ) (r : ℕ) (s : List ℕ) (n : ℕ)
      → derived_from old (unwrap_or o 0) (is_some o) ours r s n ≡ derived_from old q (is_next old q label) ours r s n
  unfolding derived_from
  old_from ours r s n = rw e (go (is_next old q label))
    where
      go : (t : Bool) → derived_from old (unwrap_or (then_some t q) 0) (is_some (then_some t q)) ours r s n ≡ derived_from old q t ours r s n
      go true = refl
      go false = refl

pub passed_next : (old : Roll) (rows : List ℕ) (r : ℕ) → passed old rows (r + 1) ≡ after (passed old rows r) (met old rows r)
unfolding passed
passed_next old rows r = rw (add-one r)

-- the walk stays within the old roll
pub passed_within : (old : Roll) (rows : List ℕ) (r : ℕ) → passed old rows r ≤ old.count
unfolding passed after
passed_within old rows zero = omega arith
passed_within old rows (suc r) = go (passed_within old rows r) (met old rows r) refl
  where
    go : passed old rows r ≤ old.count → (t : Bool) → met old rows r ≡ t → cond t (suc (passed old rows r)) (passed old rows r) ≤ old.count
    go h true e = omega (arith, (next_is old (passed old rows r) (label_of rows r) e).0)
    go h false e = h

module _ (old ours : Roll) (theirs-fit : rows_fit old.count old.rows ≡ true) (ours-fit : rows_fit ours.count ours.rows ≡ true) where
  abbrev theirs : ℕ → List ℕ
  theirs j = label_of old.rows j

  abbrev mine : ℕ → List ℕ
  mine i = label_of ours.rows i

  abbrev next : ℕ → ℕ
  next r = passed old ours.rows r

  -- an old row that is behind has the label of one of ours that is
  behind : (r j : ℕ) → j < next r → ((i : ℕ) → i < r → mine i ≡ theirs j → ⊥) → ⊥
  unfolding passed after
  behind zero j h k = not-suc-le-zero h
  behind (suc r) j h k = go (behind r j) (met old ours.rows r) refl h (dec_lt j (next r))
    where
      go : (j < next r → ((i : ℕ) → i < r → mine i ≡ theirs j → ⊥) → ⊥) → (t : Bool) → met old ours.rows r ≡ t
          → j < cond t (suc (next r)) (next r) → Dec (j < next r) → ⊥
      go earlier false p l d = earlier l (λ i m. k i (omega arith))
      go earlier true p l (yes b) = earlier b (λ i m. k i (omega arith))
      go earlier true p l (no b) =
          let z : next r ≡ j = omega arith in
          k r (omega arith) (sym (next_is old (next r) (mine r) p).1 ∙ ap theirs z)

  pub all_passed : next ours.count ≡ old.count → no_more ours old ≡ true
  unfolding no_more
  all_passed e = each_all (λ q. not (is_absent (row_in ours old q))) old.count (λ j h. go j h (row_in ours old j) refl)
    where
      go : (j : ℕ) → j < old.count → (f : Result ℕ ℕ) → row_in ours old j ≡ f → not (is_absent f) ≡ true
      go j h (Ok i) p = refl
      go j h (Err n) p = absurd (behind ours.count j (omega arith) (absent_is ours.count ours.rows (theirs j) n ours-fit p).1)

  -- where each label of the old roll is one of ours
  module _ (more : no_more ours old ≡ true) where
    ours_too : (j : ℕ) → j < old.count → ((i : ℕ) → i < ours.count → mine i ≡ theirs j → ⊥) → ⊥
    unfolding no_more
    ours_too j h k = go (row_in ours old j) refl (each_of (λ q. not (is_absent (row_in ours old q))) old.count j h more)
      where
        go : (f : Result ℕ ℕ) → row_in ours old j ≡ f → not (is_absent f) ≡ true → ⊥
        go (Ok i) p e = let f = found_is ours.count ours.rows (theirs j) i ours-fit p in k i f.0 f.1
        go (Err n) p e = true≢false (sym e)

    -- row r of ours has no later label than that of row q, where no row of ours before it has that
    not_later :
        (r q j : ℕ) → r < ours.count → ((i : ℕ) → i < r → mine i ≡ theirs q → ⊥) → q < j → j < old.count → mine r ≡ theirs j → ⊥
    not_later r q j h none l k e = ours_too q (omega arith) (λ i b f. go i b f (dec_lt i r) (dec_lt r i))
      where
        rise : before (theirs q) (theirs j) ≡ true
        rise = in_order old.count old.rows theirs-fit q j l k

        go : (i : ℕ) → i < ours.count → mine i ≡ theirs q → Dec (i < r) → Dec (r < i) → ⊥
        go i b f (yes m) d = none i m f
        go i b f (no m) (yes n) =
            one_way (theirs q) (theirs j) rise (ap₂ before (sym e) (sym f) ∙ in_order ours.count ours.rows ours-fit r i n b)
        go i b f (no m) (no n) = let z : i ≡ r = omega arith in apart (theirs q) (theirs j) rise (sym f ∙ ap mine z ∙ e)

    -- no row of ours that is behind has the label of an old one that is not
    ahead : (r : ℕ) → r ≤ ours.count → (j i : ℕ) → next r ≤ j → j < old.count → i < r → mine i ≡ theirs j → ⊥
    unfolding passed after
    ahead zero h j i l k m e = not-suc-le-zero m
    ahead (suc r) h j i l k m e = go (ahead r (omega arith)) (met old ours.rows r) refl l (dec_lt i r) (dec_lt (next r) j)
      where
        later : ((j i : ℕ) → next r ≤ j → j < old.count → i < r → mine i ≡ theirs j → ⊥) → next r < j → (i < r → ⊥) → ⊥
        later earlier c b =
            let y : r ≡ i = omega arith in
            not_later r (next r) j (omega arith) (λ x w. earlier (next r) x (omega arith) (omega arith) w) c k (ap mine y ∙ e)

        go : ((j i : ℕ) → next r ≤ j → j < old.count → i < r → mine i ≡ theirs j → ⊥) → (t : Bool) → met old ours.rows r ≡ t
            → cond t (suc (next r)) (next r) ≤ j → Dec (i < r) → Dec (next r < j) → ⊥
        go earlier true p n (yes b) d = earlier j i (omega arith) k b e
        go earlier false p n (yes b) d = earlier j i n k b e
        go earlier true p n (no b) (yes c) = later earlier c b
        go earlier false p n (no b) (yes c) = later earlier c b
        go earlier true p n (no b) (no c) = absurd (omega arith)
        go earlier false p n (no b) (no c) =
            let z : next r ≡ j = omega arith in
            let y : i ≡ r = omega arith in
            true≢false (sym (is_there old (next r) (mine r) (omega arith) (ap theirs z ∙ sym e ∙ ap mine y)) ∙ p)

    next_found : (r j : ℕ) → r < ours.count → j < old.count → theirs j ≡ mine r → next r ≡ j
    next_found r j h l e = go (dec_lt j (next r)) (dec_lt (next r) j)
      where
        go : Dec (j < next r) → Dec (next r < j) → next r ≡ j
        go (yes b) d =
            absurd (behind r j b (λ i m f. apart (mine i) (mine r) (in_order ours.count ours.rows ours-fit i r m h) (f ∙ e)))
        go (no b) (yes c) = absurd (not_later r (next r) j h (λ i m. ahead r (omega arith) (next r) i (omega arith) (omega arith) m) c l (sym e))
        go (no b) (no c) = omega arith

    -- what a search for the label of row r of ours tells of the next row
    found_next : (r j : ℕ) → r < ours.count → row_in old ours r ≡ Ok j → (met old ours.rows r ≡ true) × (next r ≡ j)
    found_next r j h p =
        let f = found_is old.count old.rows (mine r) j theirs-fit p in
        let z = next_found r j h f.0 f.1 in
        (is_there old (next r) (mine r) (omega (arith, z, f.0)) (ap theirs z ∙ f.1), z)

    absent_next : (r k : ℕ) → row_in old ours r ≡ Err k → met old ours.rows r ≡ false
    absent_next r k p = go (met old ours.rows r) refl
      where
        go : (t : Bool) → met old ours.rows r ≡ t → met old ours.rows r ≡ false
        go false e = e
        go true e =
            let n = next_is old (next r) (mine r) e in
            absurd ((absent_is old.count old.rows (mine r) k theirs-fit p).1 (next r) n.0 n.1)

    pub met_has : (r : ℕ) → r < ours.count → met old ours.rows r ≡ not (is_absent (row_in old ours r))
    met_has r h = go (row_in old ours r) refl
      where
        go : (f : Result ℕ ℕ) → row_in old ours r ≡ f → met old ours.rows r ≡ not (is_absent f)
        go (Ok j) p = (found_next r j h p).0
        go (Err k) p = absent_next r k p

    pub met_derives :
        (r : ℕ) → r < ours.count → (s : List ℕ) (n : ℕ)
        → derived_from old (next r) (met old ours.rows r) ours.rows r s n ≡ row_derived ours old r s n
    unfolding derived_from row_derived
    met_derives r h s n = go (row_in old ours r) refl
      where
        go : (f : Result ℕ ℕ) → row_in old ours r ≡ f
            → derived_from old (next r) (met old ours.rows r) ours.rows r s n
            ≡ (eqb (counted_height old f + n) (height_of ours.rows r) && same (grown (counted_tail old f) s n) (tail_of ours.rows r))
        go (Ok j) p = let f = found_next r j h p in ap₂ (λ (t : Bool) (q : ℕ). derived_from old q t ours.rows r s n) f.0 f.1
        go (Err k) p = ap (λ (t : Bool). derived_from old (next r) t ours.rows r s n) (absent_next r k p)

    pub passes_all : next ours.count ≡ old.count
    passes_all = go (dec_lt (next ours.count) old.count)
      where
        go : Dec (next ours.count < old.count) → next ours.count ≡ old.count
        go (yes l) = absurd (ours_too (next ours.count) l (λ i k. ahead ours.count (omega arith) (next ours.count) i (omega arith) l k))
        go (no l) = omega (arith, passed_within old ours.rows ours.count)
