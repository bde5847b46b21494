-- Racks written and cut: their lengths, their places, and the tests by which a string is known to be one. Assumes nothing.
use mathlib.Core.Path.{◌≡◌, refl, sym, ap, ◌∙◌}
use mathlib.Core.Bool.{Bool, true, false, ◌&&◌, and-true, and-false}
use mathlib.Core.List.{List, ◌∷◌, ◌++◌, flatten}
use Prim.Native.Nat.{ℕ, ◌+◌, ◌*◌, ◌-◌, ◌≤◌}
use native.Mathlib.Omega.{arith}
use borrow.Author.Tests.{leb-true, eqb-true, eqb-false}
use lib.ListN.{length, get_or, take, drop, replicate, length-append, length-drop, length-replicate}
use lib.Seq.{take_at, drop_at, take_all, length-take-le}
use lib.Dec.{leb, eqb}
use Rattle.octets.specs.Strings.{pieces, all_zero, same, rising}
use Rattle.octets.specs.Layouts.{holds}
use Rattle.octets.proofs.Parts.{drop_next}
use Rattle.octets.proofs.Compared.{same_lengths}
use Rattle.octets.proofs.RoundTrips.{and_left, and_right, same_refl}
use Rattle.octets.proofs.Pieces.{each_length, each_take, pieces-length, pieces_each, pieces_padded, flatten-pieces, flatten_zeros}
use Rattle.rack.specs.Racks.{Rack, most, key_bytes, rack_bytes, rack_written, rack_cut, rack_fits, rack_layout}
use Rattle.rack.specs.Tests.{rack_long}
use Rattle.rack.proofs.Shapes.{Shaped}

-- the first keys joined, and what contents are written as, are as long as their count says
module _ (r : Rack) (w : Shaped r) (n : ℕ) (few : n ≤ most) where
  pub first_bytes : length (flatten (take n r.keys)) ≡ key_bytes * n
  first_bytes =
      each_length (each_take w.sizes n) ∙ ap (λ (k : ℕ). key_bytes * k) (length-take-le n r.keys (omega (arith, w.places)))

  pub written_length : r.count ≡ n → length (rack_written r) ≡ rack_bytes n
  unfolding rack_written
  written_length e = rw e (omega (arith, first_bytes))

-- what fitting contents are
module _ (r : Rack) (f : rack_fits r ≡ true) where
  some_few_rising : (leb 1 r.count && leb r.count most && rising (take r.count r.keys)) ≡ true
  unfolding rack_fits
  some_few_rising = and_left (leb 1 r.count && leb r.count most && rising (take r.count r.keys)) (all_zero (flatten (drop r.count r.keys))) f

  some_few : (leb 1 r.count && leb r.count most) ≡ true
  some_few = and_left (leb 1 r.count && leb r.count most) (rising (take r.count r.keys)) some_few_rising

  pub fits_some : 1 ≤ r.count
  fits_some = leb-true 1 r.count (and_left (leb 1 r.count) (leb r.count most) some_few)

  pub fits_few : r.count ≤ most
  fits_few = leb-true r.count most (and_right (leb 1 r.count) (leb r.count most) some_few)

  pub fits_rising : rising (take r.count r.keys) ≡ true
  fits_rising = and_right (leb 1 r.count && leb r.count most) (rising (take r.count r.keys)) some_few_rising

  pub fits_rest : all_zero (flatten (drop r.count r.keys)) ≡ true
  unfolding rack_fits
  fits_rest = and_right (leb 1 r.count && leb r.count most && rising (take r.count r.keys)) (all_zero (flatten (drop r.count r.keys))) f

module _ (s : List ℕ) where
  pub cut_shaped : Shaped (rack_cut s)
  unfolding rack_cut
  cut_shaped =
      let t : List ℕ = drop 1 s ++ replicate (key_bytes * most) 0 in
      let e : length t ≡ length (drop 1 s) + key_bytes * most = length-append (drop 1 s) (replicate (key_bytes * most) 0) ∙ ap (λ (k : ℕ). length (drop 1 s) + k) (length-replicate {A = ℕ} (key_bytes * most) 0) in
      record { places = pieces-length key_bytes most t; sizes = pieces_each key_bytes most t (omega arith) }

  module _ (n : ℕ) (few : n ≤ most) (long : length s ≡ rack_bytes n) where
    body : length (drop 1 s) ≡ key_bytes * n
    body = length-drop 1 s ∙ omega arith

    -- the keys of a string that is as long as a rack of n, and zeros
    pub cut_keys : (rack_cut s).keys ≡ pieces key_bytes n (drop 1 s) ++ replicate (most - n) (replicate key_bytes 0)
    unfolding rack_cut
    cut_keys = pieces_padded key_bytes most n (drop 1 s) few body

    pub cut_first : take n (rack_cut s).keys ≡ pieces key_bytes n (drop 1 s)
    cut_first = ap (take n) cut_keys ∙ take_at (pieces key_bytes n (drop 1 s)) (replicate (most - n) (replicate key_bytes 0)) n (pieces-length key_bytes n (drop 1 s))

    pub cut_rest : all_zero (flatten (drop n (rack_cut s).keys)) ≡ true
    cut_rest =
        ap (λ (l : List (List ℕ)). all_zero (flatten (drop n l))) cut_keys
        ∙ ap (λ (l : List (List ℕ)). all_zero (flatten l)) (drop_at (pieces key_bytes n (drop 1 s)) (replicate (most - n) (replicate key_bytes 0)) n (pieces-length key_bytes n (drop 1 s)))
        ∙ flatten_zeros key_bytes (most - n)

    -- and written again it is the same string
    pub cut_written_again : n ≡ get_or s 0 0 → rack_written (rack_cut s) ≡ s
    unfolding rack_written rack_cut
    cut_written_again e =
        let keys : flatten (take n (rack_cut s).keys) ≡ drop 1 s =
        ap flatten cut_first ∙ flatten-pieces key_bytes n (drop 1 s) ∙ take_all (key_bytes * n) (drop 1 s) (omega (arith, body)) in
        ap (λ (m : ℕ). get_or s 0 0 ∷ flatten (take m (rack_cut s).keys)) (sym e) ∙ ap (λ (t : List ℕ). get_or s 0 0 ∷ t) keys ∙ sym (drop_next s 0 (omega arith))

  -- a string is a rack exactly where its count and its length are right and its keys rise
  pub holds_by : holds rack_layout s ≡ (rack_long s && rising (take (get_or s 0 0) (rack_cut s).keys))
  unfolding holds rack_fits rack_cut rack_long
  holds_by =
      joined (leb 1 n) (leb n most) (eqb (length s) (rack_bytes n)) (rising (take n (rack_cut s).keys))
      (λ b e. cut_rest n (leb-true n most b) (eqb-true (length s) (rack_bytes n) e))
      (λ b e. ap (λ (t : List ℕ). same t s) (cut_written_again n (leb-true n most b) (eqb-true (length s) (rack_bytes n) e) refl) ∙ same_refl s)
      (λ b e. same_lengths (rack_written (rack_cut s)) s (λ l. eqb-false (length s) (rack_bytes n) e (sym l ∙ written_length (rack_cut s) cut_shaped n (leb-true n most b) refl)))
    where
      n : ℕ
      n = get_or s 0 0

      joined :
          (a b e k : Bool) {z w : Bool}
          → (b ≡ true → e ≡ true → z ≡ true) → (b ≡ true → e ≡ true → w ≡ true) → (b ≡ true → e ≡ false → w ≡ false)
          → (a && b && k && z && w) ≡ (a && b && e && k)
      joined false b e k f g h = refl
      joined true false e k f g h = refl
      joined true true true k f g h = rw (f refl refl, g refl refl) (and-true (k && true) ∙ and-true k)
      joined true true false k {z} f g h = rw (h refl refl) (and-false (k && z))

-- what the first test tells
module _ (s : List ℕ) (h : rack_long s ≡ true) where
  n : ℕ
  n = get_or s 0 0

  some_few_long : (leb 1 n && leb n most) ≡ true
  unfolding rack_long n
  some_few_long = and_left (leb 1 n && leb n most) (eqb (length s) (rack_bytes n)) h

  pub long_some : 1 ≤ get_or s 0 0
  unfolding n
  long_some = leb-true 1 n (and_left (leb 1 n) (leb n most) some_few_long)

  pub long_few : get_or s 0 0 ≤ most
  unfolding n
  long_few = leb-true n most (and_right (leb 1 n) (leb n most) some_few_long)

  pub long_length : length s ≡ rack_bytes (get_or s 0 0)
  unfolding rack_long n
  long_length = eqb-true (length s) (rack_bytes n) (and_right (leb 1 n && leb n most) (eqb (length s) (rack_bytes n)) h)

-- what is known of a string that is a rack: its count, and its length
module _ (s : List ℕ) (h : holds rack_layout s ≡ true) where
  long : rack_long s ≡ true
  long = and_left (rack_long s) (rising (take (get_or s 0 0) (rack_cut s).keys)) (sym (holds_by s) ∙ h)

  pub holds_some : 1 ≤ get_or s 0 0
  holds_some = long_some s long

  pub holds_few : get_or s 0 0 ≤ most
  holds_few = long_few s long

  pub holds_length : length s ≡ rack_bytes (get_or s 0 0)
  holds_length = long_length s long
