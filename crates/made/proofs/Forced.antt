-- The new roll is forced: where a bundle of the entries and of such digests is derived for a keeper's roll, that roll has the labels and rows that the maker
-- takes, its lists are the maker's, and so are the lengths. Assumes nothing.
use mathlib.Core.Path.{◌≡◌, refl, sym, ap, subst, ◌∙◌}
use mathlib.Core.Bool.{Bool, true, false, not, ◌&&◌, ◌||◌}
use mathlib.Core.List.{List, ◌++◌}
use Prim.Native.Nat.{ℕ, zero, suc, ◌+◌, ◌-◌, ◌*◌, ◌≤◌, ◌<◌}
use native.Mathlib.Nat.{mul-suc}
use native.Mathlib.Omega.{arith}
use borrow.Author.Tests.{le-leb, le-ltb}
use lib.ListN.{length, take, drop, length-append}
use lib.Seq.{length-take-le}
use lib.Dec.{leb, ltb}
use Rattle.octets.specs.Numbers.{bytes_of}
use Rattle.octets.specs.Strings.{same}
use Rattle.octets.proofs.Numbers.{bytes_length}
use Rattle.octets.proofs.RoundTrips.{same_refl}
use Rattle.rows.specs.Sizes.{most_rows}
use Rattle.rows.specs.Row.{label_of, tail_of, height_of}
use Rattle.rows.specs.Table.{each, rows_fit}
use Rattle.rows.proofs.Tables.{fit_count}
use Rattle.roll.specs.Roll.{Roll}
use Rattle.statement.specs.Kinds.{digest_bytes}
use Rattle.rules.specs.Bundle.{longest_bundle, most_added, old_count, list_at, list_of, added, digests, bundle_fits}
use Rattle.rules.specs.Derivation.{grown, roll_of, derived}
use Rattle.rules.proofs.Somes.{each_all}
use Rattle.bundle.proofs.Places.{list_next, list_below, bundle_short, bundle_ends, list_within, added_few}
use Rattle.maker.specs.Rolls.{old_height, old_tail, highest, label_number, row_count}
use Rattle.maker.specs.Lists.{answered, needed, listed, leads, led, roll_led, all_led, list_made, lists_for, lists_made, bundle_made}
use Rattle.maker.specs.Making.{counts_fit, too_large}
use Rattle.maker.proofs.Orders.{Place, Rising, no_fewer, as_many, alike}
use Rattle.maker.proofs.OldLabels.{RollsHold, OldLabel, labels_rise, number_old, row_some, row_rises, has_row_number}
use Rattle.maker.proofs.Tops.{highest_most, highest_held, held-label}
use Rattle.maker.proofs.Listings.{listed_long, listed_at, grown_alike}
use Rattle.made.specs.Refused.{Answered, Such}
use Rattle.made.proofs.Derivations.{same_count, is_ours, leads_on, Kept, kept_row}

module _ (e store : List ℕ) (ours : Roll) (s : List ℕ) (n m : ℕ) (fits : bundle_fits n m ours.count s ≡ true)
    (fit : rows_fit ours.count ours.rows ≡ true) (held : RollsHold e) (d : derived ours s ≡ true) (such : Such e store ours s) where
  abbrev label : ℕ → List ℕ
  label r = label_of ours.rows r

  within : list_at s 0 ≤ length s
  within = list_within n m ours.count s fits 0 (omega arith)

  count_is : old_count e ≡ old_count s
  count_is = same_count e ours s within such.front

  kept : (r : ℕ) → r < ours.count → Kept e ours s within such.front d r
  kept r h = kept_row e ours s within such.front d r h

  leading :
      (i r : ℕ) → i < old_count e → r < ours.count
      → (old_height e (label_of ours.rows r) i + added s (list_of ours.count i r) ≡ height_of ours.rows r)
      × (grown (old_tail e (label_of ours.rows r) i) (digests s (list_of ours.count i r)) (added s (list_of ours.count i r)) ≡ tail_of ours.rows r)
  leading i r h l = leads_on e ours s within such.front d i (omega (arith, count_is)) r l

  module _ (r : ℕ) (h : r < ours.count) where
    kept-below : (kept r h).entry < old_count e
    kept-below = omega (arith, count_is, (kept r h).below)

    is_old : OldLabel e (label_of ours.rows r)
    is_old = held-label e held (label r) (kept r h).entry kept-below (kept r h).has

    -- the highest old row is ours
    height_is : (highest e (label_of ours.rows r)).height ≡ height_of ours.rows r
    height_is =
        let t = highest_held e held (label r) is_old in
        let k = kept r h in
        let a = (leading t.entry r t.entry_is h).0 in
        let b = (leading k.entry r kept-below h).0 in
        omega (arith, k.none, t.height_is, highest_most e held (label r) k.entry kept-below)

    tail_is : (highest e (label_of ours.rows r)).tail ≡ tail_of ours.rows r
    unfolding grown
    tail_is =
        let t = highest_held e held (label r) is_old in
        let p = leading t.entry r t.entry_is h in
        let z : added s (list_of ours.count t.entry r) ≡ 0 = omega (arith, p.0, t.height_is, height_is) in
        sym t.tail_is ∙ sym (ap (grown (old_tail e (label r) t.entry) (digests s (list_of ours.count t.entry r))) z) ∙ p.1

    module _ (i : ℕ) (l : i < old_count e) where
      needs : needed e (label_of ours.rows r) i ≡ added s (list_of ours.count i r)
      unfolding needed
      needs = omega (arith, height_is, (leading i r l h).0)

      answers : (d : ℕ) → d < needed e (label_of ours.rows r) i → Answered e store ours s i r d
      answers d k = such.lists i r d l h (omega (arith, needs))

      -- the digests that the store's read answers are those listed
      grows :
          grown (old_tail e (label r) i) (listed store (label r) (old_height e (label r) i) (needed e (label r) i)) (needed e (label r) i)
          ≡ (highest e (label r)).tail
      grows =
          grown_alike (old_tail e (label r) i) (listed store (label r) (old_height e (label r) i) (needed e (label r) i))
          (digests s (list_of ours.count i r)) (needed e (label r) i)
          (λ d k. listed_at store (label r) (old_height e (label r) i) (needed e (label r) i) d k ∙ sym (answers d k).this)
          ∙ ap (grown (old_tail e (label r) i) (digests s (list_of ours.count i r))) needs
          ∙ (leading i r l h).1 ∙ sym tail_is

      leads_there : leads e store (label_of ours.rows r) i ≡ true
      unfolding leads
      leads_there =
          rw (each_all (λ d. answered store (label r) (old_height e (label r) i + suc d)) (needed e (label r) i) (λ d k. (answers d k).there), grows)
          (same_refl (highest e (label r)).tail)

    led_there : led e store (label_of ours.rows r) ≡ true
    unfolding led
    led_there = each_all (leads e store (label r)) (old_count e) (λ i l. leads_there i l)

  ours_has : (i : ℕ) → i < old_count e → (q : ℕ) → q < (roll_of e i).count → Place (label_of ours.rows) ours.count (label_of (roll_of e i).rows q)
  ours_has i h q l = is_ours e ours s within such.front d i (omega (arith, count_is)) fit q l

  pub all_are_led : all_led e store ≡ true
  unfolding all_led roll_led
  all_are_led =
      each_all (roll_led e store) (old_count e)
      (λ i h. each_all (λ q. led e store (label_of (roll_of e i).rows q)) (roll_of e i).count
      (λ q l. let p = ours_has i h q l in rw p.is at (led_there p.place p.below)))

  -- the labels are ours
  number_ours : (r : ℕ) → r < row_count e → Place (label_of ours.rows) ours.count (label_number e r)
  number_ours r h =
      let o = number_old e held r (row_some e held r h) in
      let p = ours_has o.entry o.entry_is o.row o.row_is in
      record { place = p.place; below = p.below; is = p.is ∙ o.label_is }

  rising : Rising (label_of ours.rows) ours.count
  rising = labels_rise ours.count ours.rows fit

  few : row_count e ≤ most_rows
  few =
      let fewer = no_fewer (label_number e) (label_of ours.rows) (row_count e) ours.count (row_rises e held) rising number_ours in
      omega (arith, fit_count ours.count ours.rows fit)

  ours_numbered : (r : ℕ) → r < ours.count → Place (label_number e) (row_count e) (label_of ours.rows r)
  ours_numbered r h = has_row_number e held few (label r) (is_old r h)

  rows_are : row_count e ≡ ours.count
  rows_are = as_many (label_number e) (label_of ours.rows) (row_count e) ours.count (row_rises e held) rising number_ours ours_numbered

  label_is : (r : ℕ) → r < ours.count → label_number e r ≡ label_of ours.rows r
  label_is r h =
      alike (label_number e) (label_of ours.rows) (row_count e) ours.count (row_rises e held) rising number_ours ours_numbered r (omega (arith, rows_are))

  module _ (i r : ℕ) (l : i < old_count e) (h : r < ours.count) where
    needs_number : needed e (label_number e r) i ≡ added s (list_of ours.count i r)
    needs_number = ap (λ (x : List ℕ). needed e x i) (label_is r h) ∙ needs r h i l

    list_long : length (list_made e store i (label_number e r)) ≡ 2 + digest_bytes * added s (list_of ours.count i r)
    unfolding list_made
    list_long =
        let count = needed e (label_number e r) i in
        let height = old_height e (label_number e r) i in
        length-append (bytes_of 2 count) (listed store (label_number e r) height count)
        ∙ omega (arith, bytes_length 2 count, listed_long store (label_number e r) height count, needs_number)

    count_few : needed e (label_number e r) i ≤ most_added
    count_few =
        let below = list_below ours.count i (old_count s) r (omega (arith, count_is)) h in
        omega (arith, needs_number, added_few n m ours.count s fits (list_of ours.count i r) below)

  -- where the lists of an old entry end, and those of the first of them
  for_long :
      (i : ℕ) → i < old_count e → (k : ℕ) → k ≤ ours.count
      → list_at s (ours.count * i) + length (lists_for e store i k) ≡ list_at s (list_of ours.count i k)
  unfolding lists_for
  for_long i l zero h = let z : list_at s (list_of ours.count i 0) ≡ list_at s (ours.count * i) = ap (list_at s) (omega arith) in omega (arith, z)
  for_long i l (suc k) h =
      let t = for_long i l k (omega arith) in
      let j = list_of ours.count i k in
      let next : list_at s (list_of ours.count i (suc k)) ≡ list_at s (j + 1) = ap (list_at s) (omega arith) in
      omega (arith, t, next, list_next s j, length-append (lists_for e store i k) (list_made e store i (label_number e k)), list_long i k l (omega arith))

  made_long : (j : ℕ) → j ≤ old_count e → list_at s 0 + length (lists_made e store j) ≡ list_at s (ours.count * j)
  unfolding lists_made
  made_long zero h = let z : list_at s (ours.count * 0) ≡ list_at s 0 = ap (list_at s) (omega arith) in omega (arith, z)
  made_long (suc j) h =
      let t = made_long j (omega arith) in
      let next : list_at s (list_of ours.count j ours.count) ≡ list_at s (ours.count * suc j) = ap (list_at s) (sym (mul-suc ours.count j)) in
      let last = for_long j (omega arith) ours.count (omega arith) in
      let same_rows = ap (λ (k : ℕ). length (lists_for e store j k)) rows_are in
      omega (arith, length-append (lists_made e store j) (lists_for e store j (row_count e)))

  entries_long : length e ≡ list_at s 0
  entries_long = ap length (sym such.front) ∙ length-take-le (list_at s 0) s within

  bundle_long : length (bundle_made e store) ≡ length s
  unfolding bundle_made
  bundle_long =
      let end : list_at s (ours.count * old_count e) ≡ length s =
      ap (λ (a : ℕ). list_at s (ours.count * a)) count_is ∙ bundle_ends n m ours.count s fits in
      length-append e (lists_made e store (old_count e)) ∙ omega (arith, made_long (old_count e) (omega arith), entries_long, end)

  all_counts_fit : each (counts_fit e) (row_count e) ≡ true
  unfolding counts_fit
  all_counts_fit =
      each_all (counts_fit e) (row_count e)
      (λ r h. each_all (λ i. leb (needed e (label_number e r) i) most_added) (old_count e)
      (λ i l. le-leb (needed e (label_number e r) i) most_added (count_few i r l (omega (arith, rows_are)))))

  pub not_too_large : too_large e store ≡ false
  unfolding too_large
  not_too_large =
      rw (le-ltb most_rows (row_count e) few, all_counts_fit)
      (le-ltb longest_bundle (length (bundle_made e store)) (omega (arith, bundle_long, bundle_short n m ours.count s fits)))
