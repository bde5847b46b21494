-- Numbers and their bytes, one from the other and back without loss. Assumes nothing.
use mathlib.Core.Path.{◌≡◌, refl, sym, ap, ap₂, ◌∙◌}
use Prim.Native.Nat.{ℕ, zero, suc, ◌+◌, ◌/◌, ◌%◌, ◌*◌, ◌^◌, ◌<◌}
use native.Mathlib.Nat.{mul_assoc, mod-one, mod-eq_of_lt, mul-add-div_right, mul-add-mod_self_right, pow-succ', pow-le-pow_right, lt_of_lt_of_le}
use native.Mathlib.Decide.{dec_lt}
use native.Mathlib.Omega.{arith}
use mathlib.Core.List.{List, [], ◌∷◌}
use lib.ListN.{length, get_or, take, drop, length-take, get_or-eq_default}
use lib.Seq.{get_or-take, get_or-drop}
use lib.Arith.{mod-mul, digits_div, digits_lt}
use lib.Dec.{lit<}
use Rattle.octets.specs.Numbers.{number_of, bytes_of}
use Rattle.octets.proofs.Numbers.{bytes_length}

-- a string of bytes: every element is below 256, as a slice of bytes has it
abbrev pub Octets : List ℕ → Type 0
Octets s = (i : ℕ) → get_or s i 0 < 256

pub octets_drop : (n : ℕ) (s : List ℕ) → Octets s → Octets (drop n s)
octets_drop n s o i = rw (get_or-drop n s i 0) (o (n + i))

pub octets_take : (n : ℕ) (s : List ℕ) → Octets s → Octets (take n s)
octets_take n s o i = go (dec_lt i n)
  where
    go : Dec (i < n) → get_or (take n s) i 0 < 256
    go (yes h) = rw (get_or-take n s i 0 h) (o i)
    go (no h) =
        let e : get_or (take n s) i 0 ≡ 0 = get_or-eq_default (take n s) 0 (omega (arith, length-take n s)) in
        omega arith

256_pow : (n : ℕ) → 0 < 256 ^ n
256_pow n = lt_of_lt_of_le (lit< {m = 0} {n = 1} tt) (pow-le-pow_right {n = 256} (lit< tt) {i = 0} {j = n} (omega arith))

-- the last n bytes of a number are those of its remainder
pub number_mod : (n x : ℕ) → number_of (bytes_of n x) ≡ x % 256 ^ n
unfolding number_of bytes_of
number_mod zero x = sym (mod-one x)
number_mod (suc n) x =
    rw (bytes_length n x, number_mod n x, pow-succ' 256 n) (sym (mod-mul x {m = 256} {c = 256 ^ n} (lit< tt) (256_pow n)))

pub number_bytes : (n x : ℕ) → x < 256 ^ n → number_of (bytes_of n x) ≡ x
number_bytes n x h = number_mod n x ∙ mod-eq_of_lt h

-- what stands above n bytes does not touch them
pub bytes_above : (n k x : ℕ) → bytes_of n (k * 256 ^ n + x) ≡ bytes_of n x
unfolding bytes_of
bytes_above zero k x = refl
bytes_above (suc n) k x =
    let e : k * 256 ^ suc n + x ≡ k * 256 * 256 ^ n + x = ap (λ (p : ℕ). p + x) (ap (λ (p : ℕ). k * p) (pow-succ' 256 n) ∙ sym (mul_assoc k 256 (256 ^ n))) in
    let head : (k * 256 * 256 ^ n + x) / 256 ^ n % 256 ≡ x / 256 ^ n % 256 =
    ap (λ (p : ℕ). p % 256) (mul-add-div_right (256_pow n) (k * 256) x) ∙ mul-add-mod_self_right k 256 (x / 256 ^ n) in
    rw e (ap₂ (λ (b : ℕ) (l : List ℕ). b ∷ l) head (bytes_above n (k * 256) x))

pub number_below : (s : List ℕ) → Octets s → number_of s < 256 ^ length s
unfolding number_of
number_below [] o = lit< tt
number_below (b ∷ s) o = rw (pow-succ' 256 (length s)) (digits_lt (o 0) (number_below s (λ i. o (suc i))))

pub bytes_number : (s : List ℕ) → Octets s → bytes_of (length s) (number_of s) ≡ s
unfolding number_of bytes_of
bytes_number [] o = refl
bytes_number (b ∷ s) o =
    let rest : Octets s = λ i. o (suc i) in
    let head : (b * 256 ^ length s + number_of s) / 256 ^ length s % 256 ≡ b =
    ap (λ (p : ℕ). p % 256) (digits_div b (number_below s rest)) ∙ mod-eq_of_lt (o 0) in
    ap₂ (λ (x : ℕ) (l : List ℕ). x ∷ l) head (bytes_above (length s) b (number_of s) ∙ bytes_number s rest)
