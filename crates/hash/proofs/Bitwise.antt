-- Laws of ⊕ and ∧: ⊕ goes in any order, ∧ distributes over it, and it takes from a word of ones the complement. Assumes nothing.
use Rattle.std.proofs.Common.{◌≡◌, ℕ, zero, suc, ◌+◌, ◌-◌, ◌*◌, ◌/◌, ◌%◌, ◌^◌, ◌<◌, min, sym, refl, ap, ◌∙◌, ap₂, mod-lt, mod-eq_of_lt, zero-lt-suc, arith}
use lib.Arith.{bin_ind, digits_div, digits_mod}
use lib.Bits.{bit_and, bit_xor, differ, and_step, xor_step, and_comm, xor_comm, xor_self, and_mask, xor_add_and}

-- what holds of 0 and of 1 holds of a digit
digit : (P : ℕ → Type 0) (x : ℕ) → x < 2 → P 0 → P 1 → P x
digit P zero h p q = p
digit P (suc zero) h p q = q
digit P (suc (suc x)) h p q = absurd (omega arith)

low : (n : ℕ) → n % 2 < 2
low n = mod-lt n (zero-lt-suc 1)

differ_digit : (x y : ℕ) → x < 2 → y < 2 → differ x y < 2
differ_digit x y h k =
    digit (λ (x : ℕ). differ x y < 2) x h k (digit (λ (y : ℕ). differ 1 y < 2) y k (omega arith) (omega arith))

min_digit : (x y : ℕ) → x < 2 → y < 2 → min x y < 2
min_digit x y h k =
    digit (λ (x : ℕ). min x y < 2) x h
    (digit (λ (y : ℕ). min 0 y < 2) y k (omega arith) (omega arith)) (digit (λ (y : ℕ). min 1 y < 2) y k (omega arith) (omega arith))

differ_assoc : (x y z : ℕ) → x < 2 → y < 2 → z < 2 → differ (differ x y) z ≡ differ x (differ y z)
differ_assoc x y z hx hy hz =
    digit (λ (x : ℕ). differ (differ x y) z ≡ differ x (differ y z)) x hx refl
    (digit (λ (y : ℕ). differ (differ 1 y) z ≡ differ 1 (differ y z)) y hy refl
    (digit (λ (z : ℕ). differ 0 z ≡ differ 1 (differ 1 z)) z hz refl refl))

differ-min : (x y z : ℕ) → x < 2 → y < 2 → z < 2 → min (differ x y) z ≡ differ (min x z) (min y z)
differ-min x y z hx hy hz =
    digit (λ (z : ℕ). min (differ x y) z ≡ differ (min x z) (min y z)) z hz
    (digit (λ (x : ℕ). min (differ x y) 0 ≡ differ (min x 0) (min y 0)) x hx
    (digit (λ (y : ℕ). min (differ 0 y) 0 ≡ differ (min 0 0) (min y 0)) y hy refl refl)
    (digit (λ (y : ℕ). min (differ 1 y) 0 ≡ differ (min 1 0) (min y 0)) y hy refl refl))
    (digit (λ (x : ℕ). min (differ x y) 1 ≡ differ (min x 1) (min y 1)) x hx
    (digit (λ (y : ℕ). min (differ 0 y) 1 ≡ differ (min 0 1) (min y 1)) y hy refl refl)
    (digit (λ (y : ℕ). min (differ 1 y) 1 ≡ differ (min 1 1) (min y 1)) y hy refl refl))

xor_half : (a b : ℕ) → bit_xor a b / 2 ≡ bit_xor (a / 2) (b / 2)
xor_half a b = ap (λ (n : ℕ). n / 2) (xor_step a b) ∙ digits_div (bit_xor (a / 2) (b / 2)) (differ_digit (a % 2) (b % 2) (low a) (low b))

xor_odd : (a b : ℕ) → bit_xor a b % 2 ≡ differ (a % 2) (b % 2)
xor_odd a b = ap (λ (n : ℕ). n % 2) (xor_step a b) ∙ digits_mod (bit_xor (a / 2) (b / 2)) (differ_digit (a % 2) (b % 2) (low a) (low b))

and_half : (a b : ℕ) → bit_and a b / 2 ≡ bit_and (a / 2) (b / 2)
and_half a b = ap (λ (n : ℕ). n / 2) (and_step a b) ∙ digits_div (bit_and (a / 2) (b / 2)) (min_digit (a % 2) (b % 2) (low a) (low b))

and_odd : (a b : ℕ) → bit_and a b % 2 ≡ min (a % 2) (b % 2)
and_odd a b = ap (λ (n : ℕ). n % 2) (and_step a b) ∙ digits_mod (bit_and (a / 2) (b / 2)) (min_digit (a % 2) (b % 2) (low a) (low b))

joined : {p q r s : ℕ} → p ≡ q → r ≡ s → p * 2 + r ≡ q * 2 + s
joined e f = ap₂ (λ (x y : ℕ). x * 2 + y) e f

pub xor_assoc : (a b c : ℕ) → bit_xor (bit_xor a b) c ≡ bit_xor a (bit_xor b c)
xor_assoc =
    bin_ind (λ (n : ℕ). (b c : ℕ) → bit_xor (bit_xor n b) c ≡ bit_xor n (bit_xor b c)) (λ b c. refl)
    (λ n ih b c.
    xor_step (bit_xor n b) c ∙ ap₂ (λ (x y : ℕ). bit_xor x (c / 2) * 2 + differ y (c % 2)) (xor_half n b) (xor_odd n b)
    ∙ joined (ih (b / 2) (c / 2)) (differ_assoc (n % 2) (b % 2) (c % 2) (low n) (low b) (low c))
    ∙ ap₂ (λ (x y : ℕ). bit_xor (n / 2) x * 2 + differ (n % 2) y) (sym (xor_half b c)) (sym (xor_odd b c))
    ∙ sym (xor_step n (bit_xor b c)))

pub and_xor : (a b c : ℕ) → bit_and (bit_xor a b) c ≡ bit_xor (bit_and a c) (bit_and b c)
and_xor =
    bin_ind (λ (n : ℕ). (b c : ℕ) → bit_and (bit_xor n b) c ≡ bit_xor (bit_and n c) (bit_and b c)) (λ b c. refl)
    (λ n ih b c.
    and_step (bit_xor n b) c ∙ ap₂ (λ (x y : ℕ). bit_and x (c / 2) * 2 + min y (c % 2)) (xor_half n b) (xor_odd n b)
    ∙ joined (ih (b / 2) (c / 2)) (differ-min (n % 2) (b % 2) (c % 2) (low n) (low b) (low c))
    ∙ joined (ap₂ bit_xor (sym (and_half n c)) (sym (and_half b c))) (ap₂ differ (sym (and_odd n c)) (sym (and_odd b c)))
    ∙ sym (xor_step (bit_and n c) (bit_and b c)))

pub xor_and : (a b c : ℕ) → bit_and a (bit_xor b c) ≡ bit_xor (bit_and a b) (bit_and a c)
xor_and a b c = and_comm a (bit_xor b c) ∙ and_xor b c a ∙ ap₂ bit_xor (and_comm b a) (and_comm c a)

-- what is put in twice goes out
pub xor_twice : (a b : ℕ) → bit_xor a (bit_xor a b) ≡ b
xor_twice a b = sym (xor_assoc a a b) ∙ ap (λ (n : ℕ). bit_xor n b) (xor_self a)

-- the first and the second change places
pub xor_left : (a b c : ℕ) → bit_xor a (bit_xor b c) ≡ bit_xor b (bit_xor a c)
xor_left a b c = sym (xor_assoc a b c) ∙ ap (λ (n : ℕ). bit_xor n c) (xor_comm a b) ∙ xor_assoc b a c

pub xor_ones : (w x : ℕ) → x < 2 ^ w → bit_xor (2 ^ w - 1) x ≡ 2 ^ w - 1 - x
xor_ones w x h =
    let ones : ℕ = 2 ^ w - 1 in
    let both : bit_and ones x ≡ x = and_comm ones x ∙ and_mask x w ∙ mod-eq_of_lt h in
    let sum : bit_xor ones x + bit_and ones x * 2 ≡ ones + x = xor_add_and ones x in
    let sum2 : bit_xor ones x + x * 2 ≡ ones + x = ap (λ (n : ℕ). bit_xor ones x + n * 2) (sym both) ∙ sum in
    omega arith
