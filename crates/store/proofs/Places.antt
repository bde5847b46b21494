-- The first place of which a test holds, and the label's newest block. Assumes nothing.
use mathlib.Core.Path.{◌≡◌, refl, sym, ◌∙◌}
use mathlib.Core.Bool.{Bool, true, false, cond, ◌&&◌, ◌||◌}
use mathlib.Core.List.{List}
use Prim.Native.Nat.{ℕ, zero, suc, ◌+◌, ◌≤◌, ◌<◌}
use native.Mathlib.Nat.{not-suc-le-zero}
use native.Mathlib.Decide.{dec_lt}
use native.Mathlib.Numerals.{add-one}
use native.Mathlib.Omega.{arith}
use borrow.Author.Tests.{lt-ltb, le-ltb, ltb-true, ltb-false}
use lib.Dec.{ltb}
use Rattle.std.specs.Prelude.{Option, Some, None}
use Rattle.std.specs.Option.{MatchOption}
use Rattle.std.specs.Bool.{then_some}
use Rattle.std.specs.List.{list_any, range_with_len}
use Rattle.octets.specs.Strings.{same}
use Rattle.octets.proofs.RoundTrips.{same_refl}
use Rattle.cabinet.specs.Block.{label_in, height_in, tail_in}
use Rattle.store.specs.Area.{block_at, among, first_place, newer, newest}
use Rattle.store.specs.declared.Newest.{Newest}

module _ (test : ℕ → Bool) where
  -- one place more of which it does not hold
  pub first_next : (i : ℕ) → first_place test i ≡ i → test i ≡ false → first_place test (i + 1) ≡ i + 1
  unfolding first_place
  first_next i h k = rw (add-one i, h, le-ltb i i (omega arith), k)

  -- the first of which it holds decides
  pub first_found : (n i : ℕ) → i < n → first_place test i ≡ i → test i ≡ true → first_place test n ≡ i
  unfolding first_place
  first_found zero i l h k = absurd (not-suc-le-zero l)
  first_found (suc n) i l h k = go (λ m. first_found n i m h k) (dec_lt i n)
    where
      go : (i < n → first_place test n ≡ i) → Dec (i < n) → cond (ltb (first_place test n) n) (first_place test n) (cond (test n) n (suc n)) ≡ i
      go earlier (yes m) = rw (earlier m, lt-ltb i n m)
      go earlier (no m) =
          let e : i ≡ n = omega arith in
          let at : first_place test n ≡ n = rw e at h in
          let holds : test n ≡ true = rw e at k in
          rw (at, le-ltb n n (omega arith), holds) (sym e)

  -- a number of which it holds, and of none before it; or none among n
  none_before : (n : ℕ) → ((i : ℕ) → i < n → test i ≡ false) → first_place test n ≡ n
  unfolding first_place
  none_before zero h = refl
  none_before (suc n) h = rw (none_before n (λ i l. h i (omega arith)), le-ltb n n (omega arith), h n (omega arith))

  pub found_among :
      (n : ℕ) (r : Option ℕ)
      → MatchOption r ((k : ℕ) → 0 ≤ k → k < n → test k ≡ false) (λ i. (0 ≤ i) × (i < n) × (test i ≡ true) × ((k : ℕ) → 0 ≤ k → k < i → test k ≡ false))
      → r ≡ among n (first_place test n)
  found_among n None h = rw (none_before n (λ i l. h i (omega arith) l), le-ltb n n (omega arith))
  found_among n (Some i) h =
      rw (first_found n i h.1 (none_before i (λ k l. h.3 k (omega arith) l)) h.2, lt-ltb i n h.1)

  -- whether it holds of one of the numbers from a place on
  any_from :
      (n a : ℕ) → first_place test a ≡ a → list_any test (range_with_len a n) ≡ ltb (first_place test (a + n)) (a + n)
  any_from zero a h = let e : a + 0 ≡ a = omega arith in rw (e, h, le-ltb a a (omega arith))
  any_from (suc n) a h = go (λ k. any_from n (a + 1) k) (test a) refl
    where
      go :
          (first_place test (a + 1) ≡ a + 1 → list_any test (range_with_len (a + 1) n) ≡ ltb (first_place test (a + 1 + n)) (a + 1 + n)) → (b : Bool)
          → test a ≡ b → (test a || list_any test (range_with_len (a + 1) n)) ≡ ltb (first_place test (a + suc n)) (a + suc n)
      go later true e = rw (e, first_found (a + suc n) a (omega arith) h e, lt-ltb a (a + suc n) (omega arith))
      go later false e =
          let k : a + suc n ≡ a + 1 + n = omega arith in
          rw (e, k) (later (first_next a h e))

  pub any_among : (n : ℕ) → list_any test (range_with_len 0 n) ≡ ltb (first_place test n) n
  unfolding first_place
  any_among n = let e : 0 + n ≡ n = omega arith in rw e at (any_from n 0 refl)

  pub first_within : (n : ℕ) → first_place test n ≤ n
  unfolding first_place
  first_within zero = omega arith
  first_within (suc n) = go (first_within n) (ltb (first_place test n) n) (test n)
    where
      go : first_place test n ≤ n → (b t : Bool) → cond b (first_place test n) (cond t n (suc n)) ≤ suc n
      go h true t = omega arith
      go h false true = omega arith
      go h false false = omega arith

  pub first_holds : (n : ℕ) → first_place test n < n → test (first_place test n) ≡ true
  unfolding first_place
  first_holds zero h = absurd (not-suc-le-zero h)
  first_holds (suc n) h = go (first_holds n) (ltb (first_place test n) n) refl (test n) refl h
    where
      go :
          (first_place test n < n → test (first_place test n) ≡ true) → (b : Bool) → ltb (first_place test n) n ≡ b → (t : Bool) → test n ≡ t
          → cond b (first_place test n) (cond t n (suc n)) < suc n → test (cond b (first_place test n) (cond t n (suc n))) ≡ true
      go earlier true e t k l = earlier (ltb-true (first_place test n) n e)
      go earlier false e true k l = k
      go earlier false e false k l = absurd (omega arith)

  pub first_none : (n i : ℕ) → first_place test n ≡ n → i < n → test i ≡ false
  unfolding first_place
  first_none zero i h l = absurd (not-suc-le-zero l)
  first_none (suc n) i h l = go (λ p m. first_none n i p m) (first_within n) (ltb (first_place test n) n) refl (test n) refl h (dec_lt i n)
    where
      go :
          (first_place test n ≡ n → i < n → test i ≡ false) → first_place test n ≤ n → (b : Bool) → ltb (first_place test n) n ≡ b → (t : Bool) → test n ≡ t
          → cond b (first_place test n) (cond t n (suc n)) ≡ suc n → Dec (i < n) → test i ≡ false
      go earlier w true e t k p d = absurd (omega arith)
      go earlier w false e true k p d = absurd (omega arith)
      go earlier w false e false k p (yes m) = earlier (omega (arith, ltb-false (first_place test n) n e)) m
      go earlier w false e false k p (no m) = let u : i ≡ n = omega arith in rw u k

  -- it holds of none before the first
  pub first_earlier : (n i : ℕ) → i < first_place test n → test i ≡ false
  unfolding first_place
  first_earlier zero i l = absurd (not-suc-le-zero l)
  first_earlier (suc n) i l = go (first_earlier n i) (first_within n) (ltb (first_place test n) n) refl (test n) refl l
    where
      go :
          (i < first_place test n → test i ≡ false) → first_place test n ≤ n → (b : Bool) → ltb (first_place test n) n ≡ b → (t : Bool) → test n ≡ t
          → i < cond b (first_place test n) (cond t n (suc n)) → test i ≡ false
      go earlier w true e t k p = earlier p
      go earlier w false e true k p = earlier (omega (arith, ltb-false (first_place test n) n e))
      go earlier w false e false k p = case (dec_lt i n)
        where
          case : Dec (i < n) → test i ≡ false
          case (yes m) = earlier (omega (arith, ltb-false (first_place test n) n e))
          case (no m) = let u : i ≡ n = omega arith in rw u k

  -- the only place of which it holds
  pub first_only :
      (n p : ℕ) → p < n → test p ≡ true → ((i : ℕ) → i < n → (i ≡ p → ⊥) → test i ≡ false) → first_place test n ≡ p
  first_only n p l holds alone = go (dec_lt (first_place test n) n)
    where
      unlike : test (first_place test n) ≡ true → test (first_place test n) ≡ false → ⊥
      unlike a b = let z : ◌≡◌ {A = Bool} true false = sym a ∙ b in let w : ◌≡◌ {A = ℕ} 0 1 = cc in omega arith

      go : Dec (first_place test n < n) → first_place test n ≡ p
      go (yes m) = case (dec_lt (first_place test n) p) (dec_lt p (first_place test n))
        where
          case : Dec (first_place test n < p) → Dec (p < first_place test n) → first_place test n ≡ p
          case (yes a) d = absurd (unlike (first_holds n m) (alone (first_place test n) m (λ e. omega arith)))
          case (no a) (yes b) = absurd (unlike (first_holds n m) (alone (first_place test n) m (λ e. omega arith)))
          case (no a) (no b) = omega arith
      go (no m) =
          let none : test p ≡ false = first_none n p (omega (arith, first_within n)) l in
          let z : ◌≡◌ {A = Bool} true false = sym holds ∙ none in
          let w : ◌≡◌ {A = ℕ} 0 1 = cc in absurd (omega arith)

-- what a place among n says
pub among_some : (n i at : ℕ) → among n i ≡ Some at → (i ≡ at) × (i < n)
among_some n i at e = go (ltb i n) refl e
  where
    go : (b : Bool) → ltb i n ≡ b → then_some b i ≡ Some at → (i ≡ at) × (i < n)
    go true h k = (cc, ltb-true i n h)
    go false h k = absurd (cc)

pub among_none : (n i : ℕ) → among n i ≡ None → n ≤ i
among_none n i e = go (ltb i n) refl e
  where
    go : (b : Bool) → ltb i n ≡ b → then_some b i ≡ None → n ≤ i
    go true h k = absurd (cc)
    go false h k = ltb-false i n h

module _ (label : List ℕ) (found : Newest) (b : List ℕ) where
  pub newer_stays : height_in b ≤ found.height → newer label found b ≡ found
  unfolding newer
  newer_stays h = rw (le-ltb found.height (height_in b) h)

  pub newer_other : same (label_in b) label ≡ false → newer label found b ≡ found
  unfolding newer
  newer_other e = go (ltb found.height (height_in b))
    where
      go : (t : Bool) → cond (t && same (label_in b) label) (record { height = height_in b; tail = tail_in b }) found ≡ found
      go true = rw e
      go false = refl

  pub newer_moves : found.height < height_in b → same (label_in b) label ≡ true → newer label found b ≡ record { height = height_in b; tail = tail_in b }
  unfolding newer
  newer_moves h e = rw (lt-ltb found.height (height_in b) h, e)

  pub newer_grows : found.height ≤ (newer label found b).height
  unfolding newer
  newer_grows = go (ltb found.height (height_in b)) refl (same (label_in b) label)
    where
      go :
          (t : Bool) → ltb found.height (height_in b) ≡ t → (s : Bool)
          → found.height ≤ (cond (t && s) (record { height = height_in b; tail = tail_in b }) found).height
      go true e true = omega (arith, ltb-true found.height (height_in b) e)
      go true e false = omega arith
      go false e s = omega arith

  pub newer_covers : label_in b ≡ label → height_in b ≤ (newer label found b).height
  unfolding newer
  newer_covers e = go (ltb found.height (height_in b)) refl (same (label_in b) label) (rw e (same_refl label))
    where
      go :
          (t : Bool) → ltb found.height (height_in b) ≡ t → (s : Bool) → s ≡ true
          → height_in b ≤ (cond (t && s) (record { height = height_in b; tail = tail_in b }) found).height
      go true e true k = omega arith
      go true e false k = let w : ◌≡◌ {A = ℕ} 0 1 = cc in absurd (omega arith)
      go false e s k = omega (arith, ltb-false found.height (height_in b) e)

  -- it is as high as one of the two
  pub newer_one : (top : ℕ) → found.height ≤ top → height_in b ≤ top → (newer label found b).height ≤ top
  unfolding newer
  newer_one top h k = go (ltb found.height (height_in b)) (same (label_in b) label)
    where
      go : (t s : Bool) → (cond (t && s) (record { height = height_in b; tail = tail_in b }) found).height ≤ top
      go true true = k
      go true false = h
      go false s = h

module _ (area label : List ℕ) where
  pub newest_next : (n : ℕ) → newest area label (n + 1) ≡ newer label (newest area label n) (block_at area n)
  unfolding newest
  newest_next n = rw (add-one n)

  -- no block of the label is higher
  pub newest_greatest : (n i : ℕ) → i < n → label_in (block_at area i) ≡ label → height_in (block_at area i) ≤ (newest area label n).height
  unfolding newest
  newest_greatest zero i l e = absurd (not-suc-le-zero l)
  newest_greatest (suc n) i l e = go (λ m. newest_greatest n i m e) (dec_lt i n)
    where
      go :
          (i < n → height_in (block_at area i) ≤ (newest area label n).height) → Dec (i < n)
          → height_in (block_at area i) ≤ (newer label (newest area label n) (block_at area n)).height
      go earlier (yes m) = omega (arith, earlier m, newer_grows label (newest area label n) (block_at area n))
      go earlier (no m) = let u : i ≡ n = omega arith in rw u (newer_covers label (newest area label n) (block_at area n) (rw u at e))

  pub newest_below : (top n : ℕ) → ((i : ℕ) → i < n → height_in (block_at area i) ≤ top) → (newest area label n).height ≤ top
  unfolding newest
  newest_below top zero h = omega arith
  newest_below top (suc n) h =
      newer_one label (newest area label n) (block_at area n) top (newest_below top n (λ i l. h i (omega arith))) (h n (omega arith))
