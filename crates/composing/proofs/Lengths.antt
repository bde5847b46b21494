-- Laws of the bundle's length: the lists' bytes counted row by row and roll by roll, and when they pass what a bundle has. Assumes nothing.
use mathlib.Core.Path.{◌≡◌, refl, sym, ap, ◌∙◌}
use mathlib.Core.Bool.{Bool, true, false, not, ◌&&◌, ◌||◌}
use mathlib.Core.List.{List, ◌++◌, append-nil}
use Prim.Native.Nat.{ℕ, zero, suc, ◌+◌, ◌*◌, ◌<◌, ◌≤◌}
use native.Mathlib.Numerals.{add-one}
use native.Mathlib.Omega.{arith}
use borrow.Author.Tests.{lt-ltb, le-ltb, leb-true, lt-leb}
use lib.ListN.{length, length-append}
use lib.Dec.{leb, ltb}
use Rattle.octets.specs.Numbers.{bytes_of}
use Rattle.octets.proofs.Numbers.{bytes_length}
use Rattle.octets.proofs.RoundTrips.{and_left, and_right}
use Rattle.rows.specs.Sizes.{most_rows}
use Rattle.rows.specs.Row.{label_of}
use Rattle.rows.specs.Table.{each}
use Rattle.rows.proofs.Tables.{each_of, each_fails}
use Rattle.statement.specs.Kinds.{digest_bytes}
use Rattle.rules.specs.Bundle.{longest_bundle, most_added, old_count, old_roll}
use Rattle.rules.proofs.Somes.{each_all}
use Rattle.maker.specs.Rolls.{label_number, row_count, roll_made}
use Rattle.maker.specs.Lists.{needed, listed, bundle_made}
use Rattle.maker.specs.Making.{counts_fit, too_large}
use Rattle.maker.proofs.Orders.{never}
use Rattle.maker.proofs.OldLabels.{RollsHold}
use Rattle.maker.proofs.Listings.{listed_long}
use Rattle.gathering.specs.Old.{row_of}
use Rattle.composing.specs.Sizes.{need_of, lists_size, roll_size, whole_size}
use Rattle.composing.specs.Written.{lists_by, lists_of}
use Rattle.composing.proofs.Tabled.{need_is, bundle_is}

-- one roll's lists
module _ (roll table : List ℕ) where
  abbrev pub fits : ℕ → Bool
  fits r = leb (need_of roll table r) most_added

  pub size_next : (r : ℕ) → lists_size roll table (r + 1) ≡ lists_size roll table r + (2 + digest_bytes * need_of roll table r)
  unfolding lists_size
  size_next r = rw (add-one r)

  pub size_over : (count r : ℕ) → r < count → most_added < need_of roll table r → roll_size roll table count ≡ longest_bundle + 1
  unfolding roll_size
  size_over count r h k = rw (each_fails fits count r h (lt-leb (need_of roll table r) most_added k))

  pub size_whole : (count : ℕ) → each fits count ≡ true → roll_size roll table count ≡ lists_size roll table count
  unfolding roll_size
  size_whole count e = rw e

  pub size_passes : (count : ℕ) → each fits count ≡ false → roll_size roll table count ≡ longest_bundle + 1
  unfolding roll_size
  size_passes count e = rw e

  module _ (store : List ℕ) where
    pub list_long :
        (r : ℕ) → length (bytes_of 2 (need_of roll table r) ++ listed store (label_of table r) (row_of roll (label_of table r)).height (need_of roll table r))
        ≡ 2 + digest_bytes * need_of roll table r
    list_long r =
        omega (
          arith,
          length-append (bytes_of 2 (need_of roll table r)) (listed store (label_of table r) (row_of roll (label_of table r)).height (need_of roll table r)),
          bytes_length 2 (need_of roll table r),
          listed_long store (label_of table r) (row_of roll (label_of table r)).height (need_of roll table r),
        )

    pub lists_long : (n : ℕ) → length (lists_by roll store table n) ≡ lists_size roll table n
    unfolding lists_by lists_size
    lists_long zero = refl
    lists_long (suc n) =
        omega (
          arith,
          length-append (lists_by roll store table n)
              (bytes_of 2 (need_of roll table n) ++ listed store (label_of table n) (row_of roll (label_of table n)).height (need_of roll table n)),
          list_long n,
          lists_long n,
        )

-- all of them, behind the entries
module _ (e store table : List ℕ) (count : ℕ) where
  abbrev pub all_fit : ℕ → Bool
  all_fit i = each (fits (old_roll e i) table) count

  pub whole_next : (i : ℕ) → whole_size e table count (i + 1) ≡ whole_size e table count i + roll_size (old_roll e i) table count
  unfolding whole_size
  whole_next i = rw (add-one i)

  whole_long : (n : ℕ) → each all_fit n ≡ true → whole_size e table count n ≡ length (e ++ lists_of e store table count n)
  unfolding whole_size lists_of each
  whole_long zero h = ap length (sym (append-nil e))
  whole_long (suc n) h =
      let p = and_left (each all_fit n) (all_fit n) h in
      let q = and_right (each all_fit n) (all_fit n) h in
      omega (
        arith,
        whole_long n p,
        size_whole (old_roll e n) table count q,
        lists_long (old_roll e n) table store count,
        length-append e (lists_of e store table count n),
        length-append e (lists_of e store table count n ++ lists_by (old_roll e n) store table count),
        length-append (lists_of e store table count n) (lists_by (old_roll e n) store table count),
      )

  whole_passes : (n : ℕ) → each all_fit n ≡ false → longest_bundle < whole_size e table count n
  unfolding whole_size each
  whole_passes zero h = never true refl h
  whole_passes (suc n) h = go (whole_passes n) (each all_fit n) (all_fit n) refl refl h
    where
      go : (each all_fit n ≡ false → longest_bundle < whole_size e table count n) → (a b : Bool) → each all_fit n ≡ a → all_fit n ≡ b → (a && b) ≡ false
          → longest_bundle < whole_size e table count n + roll_size (old_roll e n) table count
      go earlier false b p q k = omega (arith, earlier p)
      go earlier true false p q k = omega (arith, size_passes (old_roll e n) table count q)
      go earlier true true p q k = never true refl k

-- for the table of the new roll: too large exactly where the length counted so passes what a bundle has
module _ (e store : List ℕ) (held : RollsHold e) (few : row_count e ≤ most_rows) where
  abbrev made : List ℕ
  made = (roll_made e).rows

  abbrev pub rolls_fit : Bool
  rolls_fit = each (all_fit e store made (row_count e)) (old_count e)

  down : rolls_fit ≡ true → each (counts_fit e) (row_count e) ≡ true
  unfolding counts_fit
  down p =
      each_all (counts_fit e) (row_count e)
      (λ r h. each_all (λ (i : ℕ). leb (needed e (label_number e r) i) most_added) (old_count e)
      (λ i k. ap (λ (n : ℕ). leb n most_added) (sym (need_is e held i r h))
      ∙ each_of (fits (old_roll e i) made) (row_count e) r h (each_of (all_fit e store made (row_count e)) (old_count e) i k p)))

  up : each (counts_fit e) (row_count e) ≡ true → rolls_fit ≡ true
  unfolding counts_fit
  up p =
      each_all (all_fit e store made (row_count e)) (old_count e)
      (λ i k. each_all (fits (old_roll e i) made) (row_count e)
      (λ r h. ap (λ (n : ℕ). leb n most_added) (need_is e held i r h)
      ∙ each_of (λ (i : ℕ). leb (needed e (label_number e r) i) most_added) (old_count e) i k (each_of (counts_fit e) (row_count e) r h p)))

  pub size_made : rolls_fit ≡ true → whole_size e made (row_count e) (old_count e) ≡ length (bundle_made e store)
  size_made p = whole_long e store made (row_count e) (old_count e) p ∙ ap length (bundle_is e held store)

  pub large_is : too_large e store ≡ ltb longest_bundle (whole_size e made (row_count e) (old_count e))
  unfolding too_large
  large_is = go rolls_fit refl (each (counts_fit e) (row_count e)) refl
    where
      go : (a : Bool) → rolls_fit ≡ a → (b : Bool) → each (counts_fit e) (row_count e) ≡ b
          → (ltb most_rows (row_count e) || not (each (counts_fit e) (row_count e)) || ltb longest_bundle (length (bundle_made e store)))
          ≡ ltb longest_bundle (whole_size e made (row_count e) (old_count e))
      go true p true q = rw (le-ltb most_rows (row_count e) few, q, size_made p)
      go true p false q = never (each (counts_fit e) (row_count e)) (down p) q
      go false p true q = never rolls_fit (up q) p
      go false p false q =
          rw (
            le-ltb most_rows (row_count e) few,
            q,
            lt-ltb longest_bundle (whole_size e made (row_count e) (old_count e)) (whole_passes e store made (row_count e) (old_count e) p),
          )

  -- where it is not too large, each list fits, and the length is the bundle's
  pub all_fitting : whole_size e made (row_count e) (old_count e) ≤ longest_bundle → rolls_fit ≡ true
  all_fitting h = go rolls_fit refl
    where
      go : (a : Bool) → rolls_fit ≡ a → rolls_fit ≡ true
      go true p = p
      go false p = absurd (omega (arith, whole_passes e store made (row_count e) (old_count e) p))

  pub fitting : rolls_fit ≡ true → (i : ℕ) → i < old_count e → (r : ℕ) → r < row_count e → need_of (old_roll e i) made r ≤ most_added
  fitting p i k r h =
      leb-true (need_of (old_roll e i) made r) most_added
      (each_of (fits (old_roll e i) made) (row_count e) r h (each_of (all_fit e store made (row_count e)) (old_count e) i k p))
