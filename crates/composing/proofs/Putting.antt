-- Laws of the lists put one behind the other. Assumes nothing.
use mathlib.Core.Path.{◌≡◌, sym, ap, ◌∙◌}
use mathlib.Core.List.{List, [], ◌∷◌, ◌++◌}
use Prim.Native.Nat.{ℕ, zero, suc, ◌+◌, ◌*◌, ◌/◌, ◌%◌, ◌^◌, ◌<◌, ◌≤◌}
use native.Mathlib.Decide.{dec_lt}
use native.Mathlib.Numerals.{add-one}
use native.Mathlib.Omega.{arith}
use lib.ListN.{length, length-append}
use Rattle.octets.specs.Numbers.{bytes_of}
use Rattle.octets.specs.Strings.{put}
use Rattle.octets.proofs.Fronts.{put_none}
use Rattle.octets.proofs.Puts.{put-put, put-length}
use Rattle.rows.specs.Row.{label_of}
use Rattle.rules.specs.Bundle.{most_added, old_roll}
use Rattle.maker.specs.Lists.{entry_digest, listed}
use Rattle.maker.proofs.Listings.{entry_long, listed_long}
use Rattle.gathering.specs.Old.{row_of}
use Rattle.composing.specs.Sizes.{need_of}
use Rattle.composing.specs.Written.{lists_by, lists_of}
use Rattle.composing.proofs.Lengths.{list_long}

-- the count of a list
pub count_bytes : (n : ℕ) → n ≤ most_added → 0 ∷ n ∷ [] ≡ bytes_of 2 n
unfolding bytes_of
count_bytes n h =
    let a : n / 256 ^ 1 % 256 ≡ 0 = omega arith in
    let b : n / 256 ^ 0 % 256 ≡ n = omega arith in
    rw (a, b)

-- its digests
module _ (store label : List ℕ) (height : ℕ) (area : List ℕ) (at : ℕ) where
  pub none_put : area ≡ put area at (listed store label height 0)
  unfolding listed
  none_put = sym (put_none area at)

  pub digests_long : (d : ℕ) → at + 32 * d ≤ length area → length (put area at (listed store label height d)) ≡ length area
  digests_long d h = put-length area at (listed store label height d) (omega (arith, listed_long store label height d))

  pub digests_next :
      (d : ℕ) → at + 32 * (d + 1) ≤ length area
      → put (put area at (listed store label height d)) (at + 32 * d) (entry_digest store label (height + (d + 1)))
      ≡ put area at (listed store label height (d + 1))
  unfolding listed
  digests_next d h =
      put-put area at (listed store label height d) (entry_digest store label (height + (d + 1))) (at + 32 * d)
      (omega (arith, listed_long store label height d))
      (omega (arith, listed_long store label height d, entry_long store label (height + (d + 1))))
      ∙ rw (add-one d)

-- what grows at each step has grown from any place to any later one
later : (f : ℕ → ℕ) → ((i : ℕ) → f i ≤ f (suc i)) → (i j : ℕ) → i ≤ j → f i ≤ f j
later f grows i zero h = let e : i ≡ 0 = omega arith in rw e (omega arith)
later f grows i (suc j) h = go (λ l. later f grows i j l) (dec_lt i (suc j))
  where
    go : (i ≤ j → f i ≤ f j) → Dec (i < suc j) → f i ≤ f (suc j)
    go earlier (yes l) = omega (arith, earlier (omega arith), grows j)
    go earlier (no g) = let e : i ≡ suc j = omega arith in rw e (omega arith)

-- a roll's lists
module _ (roll store table : List ℕ) where
  abbrev pub list : ℕ → List ℕ
  list r = bytes_of 2 (need_of roll table r) ++ listed store (label_of table r) (row_of roll (label_of table r)).height (need_of roll table r)

  pub lists_next : (r : ℕ) → lists_by roll store table (r + 1) ≡ lists_by roll store table r ++ list r
  unfolding lists_by
  lists_next r = rw (add-one r)

  pub next_long : (r : ℕ) → length (lists_by roll store table (r + 1)) ≡ length (lists_by roll store table r) + (2 + 32 * need_of roll table r)
  next_long r =
      omega (
        arith,
        ap length (lists_next r),
        length-append (lists_by roll store table r) (list r),
        list_long roll table store r,
      )

  size_grows : (r : ℕ) → length (lists_by roll store table r) ≤ length (lists_by roll store table (suc r))
  unfolding lists_by
  size_grows r = omega (arith, length-append (lists_by roll store table r) (list r))

  pub lists_within : (r count : ℕ) → r < count
      → length (lists_by roll store table r) + (2 + 32 * need_of roll table r) ≤ length (lists_by roll store table count)
  lists_within r count h = omega (arith, next_long r, later (λ (m : ℕ). length (lists_by roll store table m)) size_grows (r + 1) count (omega arith))

-- all lists
module _ (e store table : List ℕ) (count : ℕ) where
  pub of_next : (i : ℕ) → lists_of e store table count (i + 1) ≡ lists_of e store table count i ++ lists_by (old_roll e i) store table count
  unfolding lists_of
  of_next i = rw (add-one i)

  pub of_long :
      (i : ℕ) → length (lists_of e store table count (i + 1)) ≡ length (lists_of e store table count i) + length (lists_by (old_roll e i) store table count)
  of_long i = ap length (of_next i) ∙ length-append (lists_of e store table count i) (lists_by (old_roll e i) store table count)

  of_grows : (i : ℕ) → length (lists_of e store table count i) ≤ length (lists_of e store table count (suc i))
  unfolding lists_of
  of_grows i = omega (arith, length-append (lists_of e store table count i) (lists_by (old_roll e i) store table count))

  pub of_within :
      (i n : ℕ) → i < n
      → length (lists_of e store table count i) + length (lists_by (old_roll e i) store table count) ≤ length (lists_of e store table count n)
  of_within i n h = omega (arith, of_long i, later (λ (m : ℕ). length (lists_of e store table count m)) of_grows (i + 1) n (omega arith))

  pub of_put :
      (area : List ℕ) (at i place : ℕ) → place ≡ at + length (lists_of e store table count i)
      → at + length (lists_of e store table count i) + length (lists_by (old_roll e i) store table count) ≤ length area
      → put (put area at (lists_of e store table count i)) place (lists_by (old_roll e i) store table count)
      ≡ put area at (lists_of e store table count (i + 1))
  of_put area at i place p h =
      put-put area at (lists_of e store table count i) (lists_by (old_roll e i) store table count) place p h ∙ ap (put area at) (sym (of_next i))
