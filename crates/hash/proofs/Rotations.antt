-- Laws of the rotation of words of w bits: it goes through ⊕, and two rotations are one. Assumes nothing.
use Rattle.std.proofs.Common.{◌≡◌, ℕ, ◌+◌, ◌-◌, ◌*◌, ◌/◌, ◌%◌, ◌^◌, ◌<◌, ◌≤◌, sym, ap, ◌∙◌, ap₂, lt_of_le_of_lt, add-zero, add_assoc, mod-lt, mul_assoc, add-mul, add_comm, arith, pow_pos, pow-add, shr-shr, shr_lt}
use native.Mathlib.Nat.{add-mul-div_right, mul-add-mod_self_right, mul-mod_left}
use lib.Pow.{shl-shr, shr_le, mod-pow-add}
use lib.Bits.{bit_or, bit_xor, or_lt, or_shifted_r, xor_lt, xor_mod, xor_shr, xor_block}
use Rattle.hash.specs.Words.{shl, shr, rotr}

pub rotr_lt : (w n x : ℕ) → x < 2 ^ w → rotr w n x < 2 ^ w
unfolding shl shr rotr
rotr_lt w n x h = or_lt w (x / 2 ^ n) ((x * 2 ^ (w - n)) % 2 ^ w) (lt_of_le_of_lt (shr_le x n) h) (mod-lt (x * 2 ^ (w - n)) (pow_pos w))

-- what is shifted to the left loses its n left-most bits
shl_low : (m n x : ℕ) → (x * 2 ^ m) % 2 ^ (n + m) ≡ (x % 2 ^ n) * 2 ^ m
shl_low m n x =
    mod-pow-add (x * 2 ^ m) n m ∙ ap₂ (λ (a b : ℕ). (a % 2 ^ n) * 2 ^ m + b) (shl-shr x m) (mul-mod_left x (2 ^ m))
    ∙ add-zero ((x % 2 ^ n) * 2 ^ m)

module _ (w n x : ℕ) (within : n ≤ w) (word : x < 2 ^ w) where
  shifted_out : x / 2 ^ n < 2 ^ (w - n)
  shifted_out =
      let e : w ≡ w - n + n = omega arith in
      shr_lt (w - n) n (rw e at word)

  -- the n low bits come first, then the others
  pub rotr_parts : rotr w n x ≡ (x % 2 ^ n) * 2 ^ (w - n) + x / 2 ^ n
  unfolding shl shr rotr
  rotr_parts =
      let e : w ≡ n + (w - n) = omega arith in
      ap (bit_or (x / 2 ^ n)) (ap (λ (k : ℕ). (x * 2 ^ (w - n)) % 2 ^ k) e ∙ shl_low (w - n) n x)
      ∙ or_shifted_r (x % 2 ^ n) (w - n) (x / 2 ^ n) shifted_out

pub rotr_xor : (w n x y : ℕ) → n ≤ w → x < 2 ^ w → y < 2 ^ w → rotr w n (bit_xor x y) ≡ bit_xor (rotr w n x) (rotr w n y)
rotr_xor w n x y h hx hy =
    rotr_parts w n (bit_xor x y) h (xor_lt w x y hx hy)
    ∙ ap₂ (λ (a b : ℕ). a * 2 ^ (w - n) + b) (xor_mod x y n) (xor_shr x y n)
    ∙ sym (xor_block (w - n) (x % 2 ^ n) (y % 2 ^ n) (x / 2 ^ n) (y / 2 ^ n) (shifted_out w n x h hx) (shifted_out w n y h hy))
    ∙ ap₂ bit_xor (sym (rotr_parts w n x h hx)) (sym (rotr_parts w n y h hy))

module _ (w i j x : ℕ) (within : i + j ≤ w) (word : x < 2 ^ w) where
  k : ℕ
  k = w - (i + j)

  q : ℕ
  q = x / 2 ^ j

  r : ℕ
  r = x % 2 ^ j

  inner : rotr w j x ≡ (r * 2 ^ k) * 2 ^ i + q
  unfolding k q r
  inner =
      let e : w - j ≡ k + i = omega arith in
      rotr_parts w j x (omega arith) word ∙ ap (λ (n : ℕ). r * 2 ^ n + q) e ∙ ap (λ (n : ℕ). r * n + q) (pow-add 2 k i)
      ∙ ap (λ (n : ℕ). n + q) (sym (mul_assoc r (2 ^ k) (2 ^ i)))

  inner_low : rotr w j x % 2 ^ i ≡ q % 2 ^ i
  inner_low = ap (λ (n : ℕ). n % 2 ^ i) inner ∙ mul-add-mod_self_right (r * 2 ^ k) (2 ^ i) q

  inner_high : rotr w j x / 2 ^ i ≡ r * 2 ^ k + q / 2 ^ i
  inner_high =
      ap (λ (n : ℕ). n / 2 ^ i) (inner ∙ add_comm ((r * 2 ^ k) * 2 ^ i) q) ∙ add-mul-div_right q (r * 2 ^ k) (pow_pos i)
      ∙ add_comm (q / 2 ^ i) (r * 2 ^ k)

  outer : rotr w i (rotr w j x) ≡ (q % 2 ^ i) * (2 ^ j * 2 ^ k) + (r * 2 ^ k + q / 2 ^ i)
  unfolding k q r
  outer =
      let e : w - i ≡ j + k = omega arith in
      rotr_parts w i (rotr w j x) (omega arith) (rotr_lt w j x word)
      ∙ ap₂ (λ (a b : ℕ). a * 2 ^ (w - i) + b) inner_low inner_high
      ∙ ap (λ (n : ℕ). (q % 2 ^ i) * n + (r * 2 ^ k + q / 2 ^ i)) (ap (λ (n : ℕ). 2 ^ n) e ∙ pow-add 2 j k)

  at_once : rotr w (i + j) x ≡ ((q % 2 ^ i) * 2 ^ j + r) * 2 ^ k + q / 2 ^ i
  unfolding k q r
  at_once =
      rotr_parts w (i + j) x within word
      ∙ ap₂ (λ (a b : ℕ). a * 2 ^ k + b) (mod-pow-add x i j) (ap (λ (n : ℕ). x / 2 ^ n) (add_comm i j) ∙ sym (shr-shr x j i))

  pub rotr-rotr : rotr w i (rotr w j x) ≡ rotr w (i + j) x
  rotr-rotr =
      let a : ℕ = q % 2 ^ i in
      let b : ℕ = q / 2 ^ i in
      outer ∙ sym (at_once
      ∙ ap (λ (n : ℕ). n + b) (add-mul (a * 2 ^ j) r (2 ^ k) ∙ ap (λ (n : ℕ). n + r * 2 ^ k) (mul_assoc a (2 ^ j) (2 ^ k)))
      ∙ add_assoc (a * (2 ^ j * 2 ^ k)) (r * 2 ^ k) b)
