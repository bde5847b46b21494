-- The labels of the old rolls, and the numbers that they have in order: what has a number is an old label, and each old label has one. Assumes nothing.
use mathlib.Core.Path.{◌≡◌, refl, sym, ap, ◌∙◌}
use mathlib.Core.Bool.{Bool, true, false, cond, ◌&&◌, ◌||◌}
use mathlib.Core.List.{List}
use Prim.Native.Nat.{ℕ, zero, suc, ◌+◌, ◌*◌, ◌≤◌, ◌<◌}
use native.Mathlib.Decide.{dec_lt}
use native.Mathlib.Nat.{not-suc-le-zero}
use native.Mathlib.Omega.{arith}
use lib.ListN.{length, drop}
use Rattle.octets.specs.Strings.{all_zero, before}
use Rattle.octets.specs.Layouts.{holds}
use Rattle.octets.proofs.Orders.{before_self, before_trans}
use Rattle.octets.proofs.RoundTrips.{and_right, holds_fits}
use Rattle.octets.proofs.Zeros.{zeros_are}
use Rattle.rows.specs.Sizes.{label_bytes, row_bytes, most_rows}
use Rattle.rows.specs.Row.{label_of, tail_of, height_of, row_fits, row_holds}
use Rattle.rows.specs.Table.{each, rises, stands, rows_fit}
use Rattle.rows.proofs.Tables.{each_of, fit_length, fit_count, fit-stands}
use Rattle.roll.specs.Roll.{Roll, roll_layout}
use Rattle.statement.specs.Cut.{no_label}
use Rattle.store.specs.Area.{first_place}
use Rattle.store.proofs.Places.{first_holds, first_earlier}
use Rattle.rules.specs.Bundle.{old_count, old_roll}
use Rattle.rules.specs.Derivation.{roll_of}
use Rattle.rules.proofs.FoundRows.{stands_row, row_labelled}
use Rattle.rules.proofs.RowsParts.{part_long}
use Rattle.maker.specs.Rolls.{nearest, nearest_in, next_of, label_number, row_count}
use Rattle.maker.proofs.Orders.{never, before_total, zeros_first, Place, Rising}

-- the old rolls are rolls
abbrev pub RollsHold : List ℕ → Type 0
RollsHold e = each (λ i. holds roll_layout (old_roll e i)) (old_count e) ≡ true

-- some row of some old roll has the label
pub record OldLabel (e label : List ℕ) : Type 0 where
  pub entry : ℕ
  pub entry_is : entry < old_count e
  pub row : ℕ
  pub row_is : row < (roll_of e entry).count
  pub label_is : label_of (roll_of e entry).rows row ≡ label

-- what the rows of a table have
module _ (count : ℕ) (rows : List ℕ) (fit : rows_fit count rows ≡ true) where
  pub row_within : (q : ℕ) → q < count → row_bytes * q + row_bytes ≤ length rows
  row_within q h = omega (arith, fit_length count rows fit, fit_count count rows fit)

  pub label_long : (q : ℕ) → q < count → length (label_of rows q) ≡ label_bytes
  unfolding label_of
  label_long q h = part_long rows (row_bytes * q) label_bytes (omega (arith, row_within q h))

  pub row_holds_there : (q : ℕ) → q < count → row_holds (label_of rows q) (tail_of rows q) (height_of rows q) ≡ true
  row_holds_there q h = stands_row rows q (each_of (stands rows) count q h (fit-stands count rows fit))

  pub label_some : (q : ℕ) → q < count → all_zero (label_of rows q) ≡ false
  label_some q h = row_labelled (label_of rows q) (tail_of rows q) (height_of rows q) (row_holds_there q h)

  pub labels_rise : Rising (label_of rows) count
  unfolding stands rises
  labels_rise q h = and_right (row_fits rows (suc q)) (rises rows (suc q)) (each_of (stands rows) count (suc q) h (fit-stands count rows fit))

-- the best label so far, where there is one, does not come after another
pub record Covers (best label : List ℕ) : Type 0 where
  pub some : all_zero best ≡ false
  pub least : before label best ≡ false

module _ (last best label : List ℕ) where
  nearest_either : (P : List ℕ → Type 0) → (before last label ≡ true → P label) → P best → P (nearest last best label)
  unfolding nearest
  nearest_either P new old = go (before last label) refl (all_zero best || before label best)
    where
      go : (b : Bool) → before last label ≡ b → (t : Bool) → P (cond (b && t) label best)
      go true p true = new p
      go true p false = old
      go false p t = old

  module _ (n : all_zero label ≡ false) where
    nearest_keeps : (l : List ℕ) → Covers best l → Covers (nearest last best label) l
    unfolding nearest
    nearest_keeps l c = go (before last label) (all_zero best) refl (before label best) refl
      where
        first : before label best ≡ true → (b : Bool) → before l label ≡ b → before l label ≡ false
        first q true p = never (before l best) (before_trans l label best p q) c.least
        first q false p = p

        go : (b z : Bool) → all_zero best ≡ z → (t : Bool) → before label best ≡ t → Covers (cond (b && (z || t)) label best) l
        go false z p t q = c
        go true true p t q = never (all_zero best) p c.some
        go true false p true q = record { some = n; least = first q (before l label) refl }
        go true false p false q = c

    nearest_covers : before last label ≡ true → Covers (nearest last best label) label
    unfolding nearest
    nearest_covers h = go (before last label) h (all_zero best) refl (before label best) refl
      where
        go : (b : Bool) → b ≡ true → (z : Bool) → all_zero best ≡ z → (t : Bool) → before label best ≡ t → Covers (cond (b && (z || t)) label best) label
        go false k z p t q = never false k refl
        go true k true p t q = record { some = n; least = before_self label }
        go true k false p true q = record { some = n; least = before_self label }
        go true k false p false q = record { some = p; least = q }

module _ (old : Roll) (last best : List ℕ) where
  in_either :
      (P : List ℕ → Type 0) (q : ℕ) → ((j : ℕ) → j < q → before last (label_of old.rows j) ≡ true → P (label_of old.rows j)) → P best
      → P (nearest_in old last best q)
  unfolding nearest_in
  in_either P zero new was = was
  in_either P (suc q) new was =
      nearest_either last (nearest_in old last best q) (label_of old.rows q) P (new q (omega arith)) (in_either P q (λ j h. new j (omega arith)) was)

  in_keeps :
      (q : ℕ) → ((j : ℕ) → j < q → all_zero (label_of old.rows j) ≡ false) → (l : List ℕ) → Covers best l → Covers (nearest_in old last best q) l
  unfolding nearest_in
  in_keeps zero n l c = c
  in_keeps (suc q) n l c =
      nearest_keeps last (nearest_in old last best q) (label_of old.rows q) (n q (omega arith)) l (in_keeps q (λ j h. n j (omega arith)) l c)

  in_covers :
      (q : ℕ) → ((j : ℕ) → j < q → all_zero (label_of old.rows j) ≡ false) → (j : ℕ) → j < q → before last (label_of old.rows j) ≡ true
      → Covers (nearest_in old last best q) (label_of old.rows j)
  unfolding nearest_in
  in_covers zero n j h b = absurd (not-suc-le-zero h)
  in_covers (suc q) n j h b = go (λ l. in_covers q (λ i k. n i (omega arith)) j l b) (dec_lt j q)
    where
      go :
          (j < q → Covers (nearest_in old last best q) (label_of old.rows j)) → Dec (j < q)
          → Covers (nearest last (nearest_in old last best q) (label_of old.rows q)) (label_of old.rows j)
      go earlier (yes l) =
          nearest_keeps last (nearest_in old last best q) (label_of old.rows q) (n q (omega arith)) (label_of old.rows j) (earlier l)
      go earlier (no l) =
          let e : j ≡ q = omega arith in
          rw e (nearest_covers last (nearest_in old last best q) (label_of old.rows q) (n q (omega arith)) (rw e at b))

module _ (e : List ℕ) (held : RollsHold e) where
  pub old_fits : (i : ℕ) → i < old_count e → rows_fit (roll_of e i).count (roll_of e i).rows ≡ true
  unfolding roll_layout
  old_fits i h = holds_fits roll_layout (old_roll e i) (each_of (λ i. holds roll_layout (old_roll e i)) (old_count e) i h held)

  -- an old label is a label
  module _ (label : List ℕ) (o : OldLabel e label) where
    fit : rows_fit (roll_of e o.entry).count (roll_of e o.entry).rows ≡ true
    fit = old_fits o.entry o.entry_is

    pub old_long : length label ≡ label_bytes
    old_long = rw o.label_is at (label_long (roll_of e o.entry).count (roll_of e o.entry).rows fit o.row o.row_is)

    pub old_some : all_zero label ≡ false
    old_some = rw o.label_is at (label_some (roll_of e o.entry).count (roll_of e o.entry).rows fit o.row o.row_is)

    zeros_before : before no_label label ≡ true
    zeros_before = rw old_long at (zeros_first label old_some)

  module _ (last : List ℕ) where
    next_either :
        (P : List ℕ → Type 0) (n : ℕ) → n ≤ old_count e → ((l : List ℕ) → OldLabel e l → before last l ≡ true → P l) → P no_label → P (next_of e last n)
    unfolding next_of
    next_either P zero h new none = none
    next_either P (suc n) h new none =
        in_either (roll_of e n) last (next_of e last n) P (roll_of e n).count
        (λ j k b. new (label_of (roll_of e n).rows j) (record { entry = n; entry_is = omega arith; row = j; row_is = k; label_is = refl }) b)
        (next_either P n (omega arith) new none)

    next_covers :
        (n : ℕ) → n ≤ old_count e → (i : ℕ) → i < n → (j : ℕ) → j < (roll_of e i).count → before last (label_of (roll_of e i).rows j) ≡ true
        → Covers (next_of e last n) (label_of (roll_of e i).rows j)
    unfolding next_of
    next_covers zero h i k j l b = absurd (not-suc-le-zero k)
    next_covers (suc n) h i k j l b = go (λ m. next_covers n (omega arith) i m j l b) (dec_lt i n)
      where
        labels : (q : ℕ) → q < (roll_of e n).count → all_zero (label_of (roll_of e n).rows q) ≡ false
        labels q m = label_some (roll_of e n).count (roll_of e n).rows (old_fits n (omega arith)) q m

        go :
            (i < n → Covers (next_of e last n) (label_of (roll_of e i).rows j)) → Dec (i < n)
            → Covers (nearest_in (roll_of e n) last (next_of e last n) (roll_of e n).count) (label_of (roll_of e i).rows j)
        go earlier (yes m) =
            in_keeps (roll_of e n) last (next_of e last n) (roll_of e n).count labels (label_of (roll_of e i).rows j) (earlier m)
        go earlier (no m) =
            let r : i ≡ n = omega arith in
            rw r (in_covers (roll_of e n) last (next_of e last n) (roll_of e n).count labels j (rw r at l) (rw r at b))

    next_old :
        all_zero (next_of e last (old_count e)) ≡ false
        → OldLabel e (next_of e last (old_count e)) × (before last (next_of e last (old_count e)) ≡ true)
    next_old =
        next_either (λ (l : List ℕ). all_zero l ≡ false → OldLabel e l × (before last l ≡ true)) (old_count e) (omega arith)
        (λ l o b n. (o, b))
        (λ n. never (all_zero no_label) (zeros_are label_bytes) n)

    next_least : (l : List ℕ) → OldLabel e l → before last l ≡ true → Covers (next_of e last (old_count e)) l
    next_least l o b =
        rw o.label_is at (next_covers (old_count e) (omega arith) o.entry o.entry_is o.row o.row_is (rw o.label_is b))

  -- the label after which number k is the first
  unfoldable last_of : ℕ → List ℕ
  last_of zero = no_label
  last_of (suc k) = label_number e k

  number_next : (k : ℕ) → label_number e k ≡ next_of e (last_of k) (old_count e)
  unfolding last_of label_number
  number_next zero = refl
  number_next (suc k) = refl

  module _ (r : ℕ) (n : all_zero (label_number e r) ≡ false) where
    number_both : OldLabel e (label_number e r) × (before (last_of r) (label_number e r) ≡ true)
    number_both = rw (number_next r) (next_old (last_of r) (rw (number_next r) at n))

    -- where it is not zeros, a label with a number is an old one
    pub number_old : OldLabel e (label_number e r)
    number_old = number_both.0

    pub number_long : length (label_number e r) ≡ label_bytes
    number_long = old_long (label_number e r) number_old

  -- and comes after the one before it
  pub numbers_rise : (n : ℕ) → ((r : ℕ) → r < n → all_zero (label_number e r) ≡ false) → Rising (label_number e) n
  unfolding last_of
  numbers_rise n some r h = (number_both (suc r) (some (suc r) h)).1

  -- each old label has a number, where the labels up to one are not zeros and that one is
  module _ (n : ℕ) (some : (r : ℕ) → r < n → all_zero (label_number e r) ≡ false) (end : all_zero (label_number e n) ≡ true) where
    module _ (l : List ℕ) (o : OldLabel e l) where
      least : (k : ℕ) → before (last_of k) l ≡ true → Covers (label_number e k) l
      least k b = rw (number_next k) (next_least (last_of k) l o b)

      reach : {P : Type 0} (k : ℕ) → k ≤ n → (Place (label_number e) k l → P) → (before (last_of k) l ≡ true → P) → P
      unfolding last_of
      reach zero h found later = later (zeros_before l o)
      reach {P} (suc k) h found later =
          reach k (omega arith)
          (λ p. found (record { place = p.place; below = omega (arith, p.below); is = p.is }))
          (λ b. go (least k b) (before (label_number e k) l) refl)
        where
          go : Covers (label_number e k) l → (t : Bool) → before (label_number e k) l ≡ t → P
          go c true p = later p
          go c false p =
              let long : length (label_number e k) ≡ length l = number_long k c.some ∙ sym (old_long l o) in
              found (record { place = k; below = omega arith; is = before_total (label_number e k) l long p c.least })

      pub has_number : Place (label_number e) n l
      has_number = reach n (omega arith) (λ p. p) (λ b. never (all_zero (label_number e n)) end (least n b).some)

  -- the rows of the new roll
  pub row_some : (r : ℕ) → r < row_count e → all_zero (label_number e r) ≡ false
  unfolding row_count
  row_some r h = first_earlier (λ r. all_zero (label_number e r)) _ r h

  pub row_rises : Rising (label_number e) (row_count e)
  row_rises = numbers_rise (row_count e) row_some

  module _ (few : row_count e ≤ most_rows) where
    pub rows_end : all_zero (label_number e (row_count e)) ≡ true
    unfolding row_count
    rows_end = first_holds (λ r. all_zero (label_number e r)) (most_rows + 1) (omega arith)

    pub has_row_number : (l : List ℕ) → OldLabel e l → Place (label_number e) (row_count e) l
    has_row_number l o = has_number (row_count e) row_some rows_end l o
