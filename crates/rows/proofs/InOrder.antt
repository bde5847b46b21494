-- The search where labels rise: those up to a smaller one are smaller, from another on none is, and these two tell what is found. Assumes nothing.
use mathlib.Core.Path.{◌≡◌, refl, sym, ap, ◌∙◌}
use mathlib.Core.Bool.{Bool, true, false}
use mathlib.Core.List.{List}
use Prim.Native.Nat.{ℕ, zero, suc, ◌+◌, ◌≤◌, ◌<◌}
use native.Mathlib.Decide.{dec_lt}
use native.Mathlib.Nat.{add-zero, not-suc-le-zero}
use native.Mathlib.Numerals.{add-one}
use native.Mathlib.Omega.{arith}
use Rattle.octets.specs.Strings.{same, before}
use Rattle.octets.proofs.Orders.{before_other, before_trans}
use Rattle.octets.proofs.RoundTrips.{and_right, same_is}
use Rattle.rows.specs.Row.{label_of, row_fits}
use Rattle.rows.specs.Table.{rises, stands, rows_fit}
use Rattle.rows.specs.Search.{first_of, find, Parts, Falls, Halved}
use Rattle.std.specs.Prelude.{Ok, Err}
use Rattle.rows.proofs.Tables.{each_of, fit-stands}
use Rattle.rows.proofs.Searches.{fit_held, first_found}

module _ (rows label : List ℕ) where
  -- as many rows as have a smaller label, where all have
  pub all_smaller : (n : ℕ) → ((i : ℕ) → i < n → before (label_of rows i) label ≡ true) → first_of n rows label ≡ Err n
  unfolding first_of
  all_smaller zero below = refl
  all_smaller (suc n) below =
      rw (all_smaller n (λ i h. below i (omega arith)), before_other (label_of rows n) label (below n (omega arith)), below n (omega arith))
      (ap Err (add-one n))

  -- rows with greater labels change nothing
  pub none_smaller :
      (n k m : ℕ) → first_of n rows label ≡ Err k → n ≤ m
      → ((i : ℕ) → n ≤ i → i < m → (same (label_of rows i) label ≡ false) × (before (label_of rows i) label ≡ false))
      → first_of m rows label ≡ Err k
  unfolding first_of
  none_smaller n k zero e h greater = let r : n ≡ 0 = omega arith in rw r at e
  none_smaller n k (suc m) e h greater = go (λ l. none_smaller n k m e l (λ i g o. greater i g (omega arith))) (dec_lt n (suc m))
    where
      go : (n ≤ m → first_of m rows label ≡ Err k) → Dec (n < suc m) → first_of (suc m) rows label ≡ Err k
      go earlier (yes l) = let one = greater m (omega arith) (omega arith) in rw (earlier (omega arith), one.0, one.1) (ap Err (add-zero k))
      go earlier (no l) = let r : n ≡ suc m = omega arith in rw r at e

module _ (count : ℕ) (rows : List ℕ) (fit : rows_fit count rows ≡ true) where
  next_in_order : (i : ℕ) → suc i < count → before (label_of rows i) (label_of rows (suc i)) ≡ true
  unfolding stands rises
  next_in_order i h = and_right (row_fits rows (suc i)) (rises rows (suc i)) (each_of (stands rows) count (suc i) h (fit-stands count rows fit))

  -- an earlier row has a smaller label
  pub in_order : (i j : ℕ) → i < j → j < count → before (label_of rows i) (label_of rows j) ≡ true
  in_order i zero h l = absurd (not-suc-le-zero h)
  in_order i (suc j) h l = go (λ k. in_order i j k (omega arith)) (dec_lt i j)
    where
      go : (i < j → before (label_of rows i) (label_of rows j) ≡ true) → Dec (i < j) → before (label_of rows i) (label_of rows (suc j)) ≡ true
      go earlier (yes k) = before_trans (label_of rows i) (label_of rows j) (label_of rows (suc j)) (earlier k) (next_in_order j l)
      go earlier (no k) = let e : i ≡ j = omega arith in rw e (next_in_order j l)

  module _ (label : List ℕ) where
    -- with a row the earlier ones are smaller
    pub smaller_up_to : (i : ℕ) → i < count → before (label_of rows i) label ≡ true → (j : ℕ) → j < i + 1 → before (label_of rows j) label ≡ true
    smaller_up_to i h e j l = go (dec_lt j i)
      where
        go : Dec (j < i) → before (label_of rows j) label ≡ true
        go (yes k) = before_trans (label_of rows j) (label_of rows i) label (in_order j i k h) e
        go (no k) = let r : j ≡ i = omega arith in rw r e

    -- where one is not smaller, the later ones are not, nor is any of these the same
    later :
        (i j : ℕ) → i < j → j < count → before (label_of rows i) label ≡ false
        → (same (label_of rows j) label ≡ false) × (before (label_of rows j) label ≡ false)
    later i j h l e = (alike (same (label_of rows j) label) refl, less (before (label_of rows j) label) refl)
      where
        alike : (b : Bool) → same (label_of rows j) label ≡ b → same (label_of rows j) label ≡ false
        alike false p = p
        alike true p =
            let z : ◌≡◌ {A = Bool} true false = sym (in_order i j h l) ∙ ap (before (label_of rows i)) (same_is (label_of rows j) label p) ∙ e in
            cc

        less : (b : Bool) → before (label_of rows j) label ≡ b → before (label_of rows j) label ≡ false
        less false p = p
        less true p =
            let z : ◌≡◌ {A = Bool} true false = sym (before_trans (label_of rows i) (label_of rows j) label (in_order i j h l) p) ∙ e in
            cc

    -- what halving finds
    pub falls : Falls (λ i. before (label_of rows i) label) count
    falls i j h l e = smaller_up_to j l e i (omega arith)

    pub parts : (n : ℕ) → Halved (λ i. before (label_of rows i) label) count n → Parts count rows label n
    parts n h = record { within = h.within; below = h.below; from = h.from }

    pub none_from : (i : ℕ) → before (label_of rows i) label ≡ false → (j : ℕ) → i ≤ j → j < count → before (label_of rows j) label ≡ false
    none_from i e j h l = go (dec_lt i j)
      where
        go : Dec (i < j) → before (label_of rows j) label ≡ false
        go (yes k) = (later i j k l e).1
        go (no k) = let r : j ≡ i = omega arith in rw r e

    -- the row behind the smaller ones has the label, or none has
    module _ (i : ℕ) (p : Parts count rows label i) where
      searched : find count rows label ≡ first_of count rows label
      unfolding find
      searched = ap (λ (n : ℕ). first_of n rows label) (fit_held count rows fit)

      passed : first_of i rows label ≡ Err i
      passed = all_smaller rows label i p.below

      pub found_there : i < count → same (label_of rows i) label ≡ true → find count rows label ≡ Ok i
      found_there h e = searched ∙ first_found rows label count i i h passed e

      pub absent_there : i < count → same (label_of rows i) label ≡ false → find count rows label ≡ Err i
      absent_there h e = searched ∙ none_smaller rows label i i count passed (omega arith) (λ j l k. greater j l k (dec_lt i j))
        where
          greater : (j : ℕ) → i ≤ j → j < count → Dec (i < j) → (same (label_of rows j) label ≡ false) × (before (label_of rows j) label ≡ false)
          greater j l k (yes g) = later i j g k (p.from i (omega arith) h)
          greater j l k (no g) = let r : j ≡ i = omega arith in (rw r e, p.from j l k)

      pub absent_last : i ≡ count → find count rows label ≡ Err i
      absent_last e = searched ∙ ap (λ (n : ℕ). first_of n rows label) (sym e) ∙ passed
