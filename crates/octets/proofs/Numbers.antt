-- Laws of big-endian numbers. Assumes nothing.
use mathlib.Core.Path.{◌≡◌, refl, sym, ap, ap₂, ◌∙◌}
use mathlib.Core.List.{List, [], ◌∷◌, ◌++◌}
use Prim.Native.Nat.{ℕ, zero, suc, ◌+◌, ◌/◌, ◌%◌, ◌*◌, ◌-◌, ◌^◌, ◌<◌}
use native.Mathlib.Nat.{zero-mul, add-mul, mul_assoc, mul_comm, add_assoc, div-div-eq-div-mul, zero-add, suc-add, sub-zero, suc-sub-suc, le-add_left, lt_of_lt_of_le, div-eq_of_lt, div-one, pow-le-pow_right}
use native.Mathlib.Omega.{arith}
use lib.ListN.{length, get_or, replicate, length-append}
use lib.Pow.{pow-add}
use lib.Dec.{lit<}
use Rattle.std.specs.Int.{byte_worth, bytes_high_first, sum_through}
use Rattle.octets.specs.Numbers.{number_of, bytes_of}

pub bytes_length : (n x : ℕ) → length (bytes_of n x) ≡ n
unfolding bytes_of
bytes_length zero x = refl
bytes_length (suc n) x = ap suc (bytes_length n x)

-- a small number has zeros in front
pub bytes_small : (m n x : ℕ) → x < 256 ^ n → bytes_of (m + n) x ≡ replicate m 0 ++ bytes_of n x
unfolding bytes_of
bytes_small zero n x h = ap (λ (k : ℕ). bytes_of k x) (zero-add n)
bytes_small (suc m) n x h =
    let z : x / 256 ^ (m + n) ≡ 0 = div-eq_of_lt (lt_of_lt_of_le h (pow-le-pow_right (lit< tt) (le-add_left n m))) in
    rw (suc-add m n) (ap₂ (λ (b : ℕ) (l : List ℕ). b % 256 ∷ l) z (bytes_small m n x h))

pub number_append : (a b : List ℕ) → number_of (a ++ b) ≡ number_of a * 256 ^ length b + number_of b
unfolding number_of
number_append [] b = simp (zero-mul, zero-add)
number_append (x ∷ a) b =
    rw (number_append a b, length-append a b, pow-add 256 (length a) (length b), ← mul_assoc x (256 ^ length a) (256 ^ length b), add-mul (x * 256 ^ length a) (number_of a) (256 ^ length b))
    (sym (add_assoc (x * 256 ^ length a * 256 ^ length b) (number_of a * 256 ^ length b) (number_of b)))

-- the last n bytes are those of the remainder, the others those of the quotient
pub bytes_append : (m n x : ℕ) → bytes_of (m + n) x ≡ bytes_of m (x / 256 ^ n) ++ bytes_of n x
unfolding bytes_of
bytes_append zero n x = ap (λ (k : ℕ). bytes_of k x) (zero-add n)
bytes_append (suc m) n x =
    let e : x / 256 ^ (m + n) ≡ x / 256 ^ n / 256 ^ m =
    ap (λ (k : ℕ). x / k) (pow-add 256 m n ∙ mul_comm (256 ^ m) (256 ^ n)) ∙ sym (div-div-eq-div-mul x (256 ^ n) (256 ^ m)) in
    rw (suc-add m n) (ap₂ (λ (b : ℕ) (l : List ℕ). b % 256 ∷ l) e (bytes_append m n x))

-- the last four bytes of a number are those of its remainder
pub bytes_low : (x : ℕ) → bytes_of 4 (x % 4294967296) ≡ bytes_of 4 x
unfolding bytes_of
bytes_low x =
    let a : x % 4294967296 / 16777216 % 256 ≡ x / 16777216 % 256 = omega arith in
    let b : x % 4294967296 / 65536 % 256 ≡ x / 65536 % 256 = omega arith in
    let c : x % 4294967296 / 256 % 256 ≡ x / 256 % 256 = omega arith in
    let d : x % 4294967296 / 1 % 256 ≡ x / 1 % 256 = omega arith in
    rw (a, b, c, d)

sum_front : (f : ℕ → ℕ) (k : ℕ) → sum_through f (suc k) ≡ f 0 + sum_through (λ i. f (suc i)) k
sum_front f zero = refl
sum_front f (suc k) = ap (λ (n : ℕ). n + f (suc (suc k))) (sum_front f k) ∙ add_assoc (f 0) (sum_through (λ i. f (suc i)) k) (f (suc (suc k)))

-- a number read from its bytes, as the library says it
pub number_sum : (k : ℕ) (s : List ℕ) → length s ≡ suc k → sum_through (λ i. byte_worth (k - i) (get_or s i 0)) k ≡ number_of s
unfolding number_of
number_sum zero [] e = absurd (omega arith)
number_sum zero (x ∷ []) e = omega arith
number_sum zero (x ∷ y ∷ s) e = absurd (omega arith)
number_sum (suc k) [] e = absurd (omega arith)
number_sum (suc k) (x ∷ s) e =
    let n : length s ≡ suc k = omega arith in
    sum_front (λ i. byte_worth (suc k - i) (get_or (x ∷ s) i 0)) k
    ∙ ap₂ (λ (a b : ℕ). byte_worth a x + b) (sub-zero (suc k))
    (ap (λ (f : ℕ → ℕ). sum_through f k) (λ j i. byte_worth (suc-sub-suc k i j) (get_or s i 0)) ∙ number_sum k s n)
    ∙ ap (λ (m : ℕ). x * 256 ^ m + number_of s) (sym n)

-- a number's bytes, as the library says it
pub high_first : (n x : ℕ) → bytes_high_first n x ≡ bytes_of n x
unfolding bytes_of
high_first zero x = refl
high_first (suc zero) x = rw (div-one x)
high_first (suc (suc n)) x = ap (λ (l : List ℕ). x / 256 ^ suc n % 256 ∷ l) (high_first (suc n) x)
