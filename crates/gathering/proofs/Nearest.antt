-- Laws of the nearest label of a roll: since labels rise, it is the first that comes after. Assumes nothing.
use mathlib.Core.Path.{◌≡◌, refl, ap, ◌∙◌}
use mathlib.Core.Bool.{Bool, true, false, not}
use mathlib.Core.List.{List}
use Prim.Native.Nat.{ℕ, zero, suc, ◌-◌, ◌<◌, ◌≤◌}
use native.Mathlib.Decide.{dec_lt}
use native.Mathlib.Nat.{not-suc-le-zero}
use native.Mathlib.Omega.{arith}
use borrow.Author.Tests.{not-true}
use Rattle.octets.specs.Strings.{all_zero, before}
use Rattle.octets.specs.Layouts.{holds}
use Rattle.octets.proofs.Orders.{before_self, before_trans}
use Rattle.octets.proofs.RoundTrips.{holds_fits, and_left, and_right}
use Rattle.rows.specs.Row.{label_of}
use Rattle.rows.specs.Table.{each, rows_fit}
use Rattle.roll.specs.Roll.{Roll, roll_layout}
use Rattle.rules.proofs.Somes.{each_all}
use Rattle.maker.specs.Rolls.{nearest, nearest_in}
use Rattle.maker.proofs.Orders.{never, rising_order}
use Rattle.maker.proofs.OldLabels.{labels_rise, label_some}
use Rattle.gathering.specs.Old.{up_to}
use Rattle.gathering.proofs.Walks.{not_after, first_found, nearer_found, farther}

pub roll_fits : (s : List ℕ) → holds roll_layout s ≡ true → rows_fit (roll_layout.cut s).count (roll_layout.cut s).rows ≡ true
unfolding roll_layout
roll_fits s h = holds_fits roll_layout s h

-- one test that does not hold, where another follows from it
unless : (a b : Bool) → (a ≡ true → b ≡ true) → b ≡ false → a ≡ false
unless false b f n = refl
unless true b f n = never b (f refl) n

module _ (old : Roll) (fit : rows_fit old.count old.rows ≡ true) (last best : List ℕ) where
  abbrev label : ℕ → List ℕ
  label = label_of old.rows

  order : (i j : ℕ) → i < j → j < old.count → before (label i) (label j) ≡ true
  order i j h l = rising_order label old.count (labels_rise old.count old.rows fit) i j h l

  -- the rows before one that does not come after
  pub guess_holds : (g : ℕ) → 0 < g → g ≤ old.count → before last (label (g - 1)) ≡ false → each (up_to old.rows last) g ≡ true
  unfolding up_to
  guess_holds g s h n = each_all (up_to old.rows last) g (λ q l. ap not (go q l (dec_lt q (g - 1))))
    where
      go : (q : ℕ) → q < g → Dec (q < g - 1) → before last (label q) ≡ false
      go q l (yes k) =
          unless (before last (label q)) (before last (label (g - 1))) (λ p. before_trans last (label q) (label (g - 1)) p (order q (g - 1) k (omega arith))) n
      go q l (no k) = let e : q ≡ g - 1 = omega arith in rw e n

  pub stays : (p : ℕ) → each (up_to old.rows last) p ≡ true → nearest_in old last best p ≡ best
  unfolding nearest_in each up_to
  stays zero h = refl
  stays (suc p) h =
      let front = and_left (each (up_to old.rows last) p) (up_to old.rows last p) h in
      let here = and_right (each (up_to old.rows last) p) (up_to old.rows last p) h in
      ap (λ (b : List ℕ). nearest last b (label p)) (stays p front) ∙ not_after last best (label p) (not-true (before last (label p)) here)

  -- the first that comes after
  module _ (p : ℕ) (h : p < old.count) (front : each (up_to old.rows last) p ≡ true) (after : before last (label p) ≡ true) where
    record Near (x : List ℕ) : Type 0 where
      some : all_zero x ≡ false
      least : before (label p) x ≡ false

    near : Near (nearest last best (label p))
    near = go (all_zero best) refl (before (label p) best) refl
      where
        here : Near (label p)
        here = record { some = label_some old.count old.rows fit p h; least = before_self (label p) }

        go : (a : Bool) → all_zero best ≡ a → (b : Bool) → before (label p) best ≡ b → Near (nearest last best (label p))
        go true z b q = rw (first_found last best (label p) after z) here
        go false z true q = rw (nearer_found last best (label p) after z q) here
        go false z false q = rw (farther last best (label p) after z q) (record { some = z; least = q })

    -- a later label is not nearer
    later : (x : List ℕ) → Near x → (j : ℕ) → p < j → j < old.count → nearest last x (label j) ≡ x
    later x n j k l = go (before last (label j)) refl
      where
        go : (b : Bool) → before last (label j) ≡ b → nearest last x (label j) ≡ x
        go false q = not_after last x (label j) q
        go true q =
            farther last x (label j) q n.some
            (unless (before (label j) x) (before (label p) x) (λ y. before_trans (label p) (label j) x (order p j k l) y) n.least)

    found_stays : (m : ℕ) → p < m → m ≤ old.count → nearest_in old last best m ≡ nearest last best (label p)
    unfolding nearest_in
    found_stays zero k l = absurd (not-suc-le-zero k)
    found_stays (suc j) k l = go (λ i. found_stays j i (omega arith)) (dec_lt p j)
      where
        go : (p < j → nearest_in old last best j ≡ nearest last best (label p)) → Dec (p < j)
            → nearest last (nearest_in old last best j) (label j) ≡ nearest last best (label p)
        go earlier (yes i) = ap (λ (b : List ℕ). nearest last b (label j)) (earlier i) ∙ later (nearest last best (label p)) near j i (omega arith)
        go earlier (no i) =
            let e : j ≡ p = omega arith in
            rw e (ap (λ (b : List ℕ). nearest last b (label p)) (stays p front))

    pub nearest_found : nearest_in old last best old.count ≡ nearest last best (label p)
    nearest_found = found_stays old.count h (omega arith)
