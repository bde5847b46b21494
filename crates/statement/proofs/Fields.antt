-- Fields of a string, one behind the other: taken out of it, and put together again. Assumes nothing.
use mathlib.Core.Path.{◌≡◌, refl, sym, ap, ◌∙◌}
use mathlib.Core.Bool.{true}
use mathlib.Core.List.{List, [], ◌∷◌, ◌++◌, append_assoc}
use Prim.Native.Nat.{ℕ, suc, ◌+◌, ◌≤◌, ◌<◌}
use native.Mathlib.Omega.{arith}
use native.Mathlib.Numerals.{add-one}
use lib.ListN.{length, take, drop, set, replicate, take-append-drop, length-append, length-drop}
use lib.Seq.{drop-drop, drop_at, take_at, set_split, length-take-le}
use Rattle.octets.specs.Strings.{put, all_zero}
use Rattle.octets.specs.Numbers.{number_of, bytes_of}
use Rattle.octets.proofs.Exact.{Octets, octets_take, octets_drop, bytes_number}
use Rattle.octets.proofs.Puts.{put_all, put-put}
use Rattle.octets.proofs.Zeros.{zero_is as zeros_of}

-- the field that a place begins with, and what stands behind it
pub here : (w a q : List ℕ) (i n : ℕ) → drop i w ≡ a ++ q → length a ≡ n → take n (drop i w) ≡ a
here w a q i n e l = rw e (take_at a q n l)

pub behind : (w a q : List ℕ) (i n : ℕ) → drop i w ≡ a ++ q → length a ≡ n → drop (i + n) w ≡ q
behind w a q i n e l = sym (drop-drop n i w) ∙ ap (drop n) e ∙ drop_at a q n l

-- a field joined with what stands behind it
pub joined : (s : List ℕ) (i n : ℕ) → take n (drop i s) ++ drop (i + n) s ≡ drop i s
joined s i n = rw (← drop-drop n i s) (take-append-drop n (drop i s))

-- a number's field is the bytes of that number
pub number_field :
    (s : List ℕ) (i n : ℕ) → Octets s → i + n ≤ length s → bytes_of n (number_of (take n (drop i s))) ≡ take n (drop i s)
number_field s i n o h =
    let l : length (take n (drop i s)) ≡ n = length-take-le n (drop i s) (omega (arith, length-drop i s)) in
    ap (λ (k : ℕ). bytes_of k (number_of (take n (drop i s)))) (sym l)
    ∙ bytes_number (take n (drop i s)) (octets_take n (drop i s) (octets_drop i s o))

-- a string that is all zero, by its length
pub zero_is : (s : List ℕ) (n : ℕ) → length s ≡ n → all_zero s ≡ true → s ≡ replicate n 0
zero_is s n l e = zeros_of s e ∙ ap (λ (k : ℕ). replicate k 0) l

-- a store is a string of one byte put in place
pub set-put : (d : List ℕ) (i x : ℕ) → i < length d → set d i x ≡ put d i (x ∷ [])
unfolding put
set-put d i x h = rw (add-one i) (set_split d i x h ∙ sym (append_assoc (take i d) (x ∷ []) (drop (suc i) d)))

-- three strings put one behind the other
pub three_puts :
    (d : List ℕ) (at : ℕ) (a b c : List ℕ) → at + length a + length b + length c ≤ length d
    → put (put (put d at a) (at + length a) b) (at + length a + length b) c ≡ put d at (a ++ b ++ c)
three_puts d at a b c h =
    ap (λ (s : List ℕ). put s (at + length a + length b) c) (put-put d at a b (at + length a) refl (omega arith))
    ∙ put-put d at (a ++ b) c (at + length a + length b) (omega (arith, length-append a b)) (omega (arith, length-append a b))

pub three_lengths : (at : ℕ) (a b c : List ℕ) {n : ℕ} → at + length (a ++ b ++ c) ≤ n → at + length a + length b + length c ≤ n
three_lengths at a b c h = omega (arith, length-append (a ++ b) c, length-append a b)
