-- What the library's words say of keys: pieces of a string, keys joined, one among them, and their order. Assumes nothing.
use mathlib.Core.Path.{◌≡◌, refl, sym, ap, ap₂, ◌∙◌}
use mathlib.Core.Bool.{Bool, true, false, ◌&&◌, ◌||◌, and-false}
use mathlib.Core.List.{List, [], ◌∷◌, ◌++◌, flatten}
use Prim.Native.Nat.{ℕ, zero, suc, ◌+◌, ◌-◌, ◌≤◌, ◌<◌, min}
use native.Mathlib.Numerals.{add-one}
use native.Mathlib.Decide.{dec_lt}
use native.Mathlib.Omega.{arith}
use lib.ListN.{length, get_or, take, drop, length-take, drop_of_length-le}
use lib.Seq.{drop-cons, take_all, get_or-take}
use lib.Dec.{eqb}
use lib.Pointwise.{pointwise}
use Rattle.std.specs.List.{flat_map, list_any, slice_get, IsAllAdjacentAnswer}
use Rattle.std.specs.Option.{option_copied, option_eq}
use Rattle.std.proofs.Common.{Option, Some, None, Bor}
use Rattle.std.specs.Simd.{first_chunks}
use Rattle.octets.specs.Strings.{pieces, all_zero, same, before, rising}
use Rattle.octets.proofs.Compared.{same_pointwise}
use Rattle.octets.proofs.Zeros.{zero_append}
use Rattle.rack.specs.Racks.{most, is_among, rack_cut, is_of_two}

pub first_chunks_are : (k n : ℕ) (s : List ℕ) → first_chunks k n s ≡ pieces k n s
unfolding pieces
first_chunks_are k zero s = refl
first_chunks_are k (suc n) s = ap (λ (l : List (List ℕ)). take k s ∷ l) (first_chunks_are k n (drop k s))

pub flat_is : (l : List (List ℕ)) → flat_map (λ x. x) l ≡ flatten l
unfolding flatten
flat_is [] = refl
flat_is (x ∷ l) = ap (λ (s : List ℕ). x ++ s) (flat_is l)

-- the first keys, of no more places than there are
pub first_keys : (k n : ℕ) (l : List (List ℕ)) → length l ≡ most → n ≡ min k most → take n l ≡ take k l
first_keys k n l w e = go (dec_lt k most)
  where
    go : Dec (k < most) → take n l ≡ take k l
    go (yes h) = let m : n ≡ k = omega arith in rw m
    go (no h) = take_all n l (omega arith) ∙ sym (take_all k l (omega arith))

rising_each :
    (l : List (List ℕ)) → ((k : ℕ) → k + 1 < length l → before (get_or l k []) (get_or l (k + 1) []) ≡ true) → rising l ≡ true
unfolding rising
rising_each [] h = refl
rising_each (x ∷ []) h = refl
rising_each (x ∷ y ∷ l) h =
    rw (h 0 (omega arith)) (rising_each (y ∷ l) (λ k t. rw (add-one k) (rw (add-one (suc k)) at (h (suc k) (omega arith)))))

rising_fails :
    (l : List (List ℕ)) (k : ℕ) → k + 1 < length l → before (get_or l k []) (get_or l (k + 1) []) ≡ false → rising l ≡ false
unfolding rising
rising_fails [] k t h = absurd (omega arith)
rising_fails (x ∷ []) k t h = absurd (omega arith)
rising_fails (x ∷ y ∷ l) zero t h = rw h
rising_fails (x ∷ y ∷ l) (suc k) t h =
    rw (rising_fails (y ∷ l) k (omega arith) (rw (add-one k) (rw (add-one (suc k)) at h))) (and-false (before x y))

pub sorted_is : (l : List (List ℕ)) (r : Bool) → IsAllAdjacentAnswer (λ x y b. b ≡ before x y) l r → r ≡ rising l
sorted_is l true h = sym (rising_each l (λ k t. sym (h k [] t)))
sorted_is l false h = sym (rising_fails l h.0 h.1 (sym (h.2 [])))

pub among_is : (key : List ℕ) (l : List (List ℕ)) → list_any (λ y. pointwise eqb y key) l ≡ is_among key l
unfolding is_among
among_is key [] = refl
among_is key (x ∷ l) = ap₂ ◌||◌ (same_pointwise x key) (among_is key l)

-- the first byte, where there is one
pub first_none : (s : List ℕ) → ◌≡◌ {A = Option ℕ} None (slice_get s 0) → get_or s 0 0 ≡ 0
first_none [] e = refl
first_none (b ∷ s) e = let z : ◌≡◌ {A = ℕ} 0 1 = cc in absurd (omega arith)

pub first_two :
    (s : List ℕ) (o : Option (Bor ℕ)) (two : Bor ℕ) → two.now ≡ 2 → option_copied o ≡ slice_get s 0
    → option_eq (λ x y. eqb x.now y.now) o (Some two) ≡ is_of_two s
unfolding rack_cut is_of_two
first_two [] None two t e = refl
first_two [] (Some x) two t e = let z : ◌≡◌ {A = ℕ} 0 1 = cc in absurd (omega arith)
first_two (b ∷ s) None two t e = let z : ◌≡◌ {A = ℕ} 0 1 = cc in absurd (omega arith)
first_two (b ∷ s) (Some x) two t e = let n : x.now ≡ b = cc in ap₂ eqb n t

-- keys walked from the front: what two neighbours decide of their order, and what one key decides of the rest
next : (l : List (List ℕ)) (i : ℕ) → i < length l → drop i l ≡ get_or l i [] ∷ drop (i + 1) l
next l i h = rw (add-one i) (drop-cons l i [] h)

module _ (l : List (List ℕ)) (i : ℕ) where
  pub among_step : (key : List ℕ) → i < length l → is_among key (drop i l) ≡ (same (get_or l i []) key || is_among key (drop (i + 1) l))
  unfolding is_among
  among_step key h = ap (is_among key) (next l i h)

  pub among_end : (key : List ℕ) → length l ≤ i → is_among key (drop i l) ≡ false
  unfolding is_among
  among_end key h = ap (is_among key) (drop_of_length-le l h)

  pub zero_keys_step : i < length l → all_zero (flatten (drop i l)) ≡ (all_zero (get_or l i []) && all_zero (flatten (drop (i + 1) l)))
  unfolding flatten
  zero_keys_step h = ap (λ (k : List (List ℕ)). all_zero (flatten k)) (next l i h) ∙ zero_append (get_or l i []) (flatten (drop (i + 1) l))

  pub zero_keys_end : length l ≤ i → all_zero (flatten (drop i l)) ≡ true
  unfolding flatten all_zero
  zero_keys_end h = ap (λ (k : List (List ℕ)). all_zero (flatten k)) (drop_of_length-le l h)

  pub rising_step : i + 1 < length l → rising (drop i l) ≡ (before (get_or l i []) (get_or l (i + 1) []) && rising (drop (i + 1) l))
  unfolding rising
  rising_step h =
      let x : List ℕ = get_or l i [] in
      let rest = next l (i + 1) h in
      ap rising (next l i (omega arith) ∙ ap (λ (k : List (List ℕ)). x ∷ k) rest) ∙ sym (ap (λ (k : List (List ℕ)). before x (get_or l (i + 1) []) && rising k) rest)

  pub rising_end : length l ≤ i + 1 → rising (drop i l) ≡ true
  unfolding rising
  rising_end h = go (dec_lt i (length l))
    where
      go : Dec (i < length l) → rising (drop i l) ≡ true
      go (yes k) = ap rising (next l i k ∙ ap (λ (m : List (List ℕ)). get_or l i [] ∷ m) (drop_of_length-le l h))
      go (no k) = let le : length l ≤ i = omega arith in ap rising (drop_of_length-le l le)

-- the same of the first keys
module _ (keys : List (List ℕ)) (count i : ℕ) where
  pub rising_next :
      1 ≤ i → i < count → i < length keys
      → rising (drop (i - 1) (take count keys)) ≡ (before (get_or keys (i - 1) []) (get_or keys i []) && rising (drop i (take count keys)))
  rising_next h k m =
      let e : i - 1 + 1 ≡ i = omega arith in
      let x : get_or (take count keys) (i - 1) [] ≡ get_or keys (i - 1) [] = get_or-take count keys (i - 1) [] (omega arith) in
      let y : get_or (take count keys) i [] ≡ get_or keys i [] = get_or-take count keys i [] k in
      let step = rising_step (take count keys) (i - 1) (omega (arith, length-take count keys)) in
      rw (x, e, y) at step

  pub among_next :
      (key : List ℕ) → i < count → i < length keys
      → is_among key (drop i (take count keys)) ≡ (same (get_or keys i []) key || is_among key (drop (i + 1) (take count keys)))
  among_next key k m =
      let x : get_or (take count keys) i [] ≡ get_or keys i [] = get_or-take count keys i [] k in
      rw x at (among_step (take count keys) i key (omega (arith, length-take count keys)))
