-- The six functions of the standard in fewer operations, on words of w bits: each equation is the one by which the code computes. Assumes nothing.
use Rattle.std.proofs.Common.{◌≡◌, ℕ, ◌+◌, ◌-◌, ◌^◌, ◌<◌, ◌≤◌, sym, ap, ◌∙◌, ap₂, mod-eq_of_lt, arith}
use lib.Bits.{bit_and, bit_xor, and_self, and_comm, and_mask, xor_comm, xor_lt}
use Rattle.hash.specs.Words.{complement, shr, rotr}
use Rattle.hash.specs.Functions.{Ch, Maj, upper_sigma, lower_sigma}
use Rattle.hash.proofs.Bitwise.{xor_assoc, and_xor, xor_and, xor_twice, xor_left, xor_ones}
use Rattle.hash.proofs.Rotations.{rotr_lt, rotr_xor, rotr-rotr}

-- ¬x ∧ z = z ⊕ (x ∧ z)
complement_and : (w x z : ℕ) → x < 2 ^ w → z < 2 ^ w → bit_and (complement w x) z ≡ bit_xor z (bit_and x z)
unfolding complement
complement_and w x z hx hz =
    ap (λ (n : ℕ). bit_and n z) (sym (xor_ones w x hx)) ∙ and_xor (2 ^ w - 1) x z
    ∙ ap (λ (n : ℕ). bit_xor n (bit_and x z)) (and_comm (2 ^ w - 1) z ∙ and_mask z w ∙ mod-eq_of_lt hz)

pub Ch_by : (w x y z : ℕ) → x < 2 ^ w → z < 2 ^ w → bit_xor z (bit_and x (bit_xor y z)) ≡ Ch w x y z
unfolding Ch
Ch_by w x y z hx hz =
    ap (bit_xor z) (xor_and x y z) ∙ xor_left z (bit_and x y) (bit_and x z)
    ∙ ap (bit_xor (bit_and x y)) (sym (complement_and w x z hx hz))

pub Maj_by : (x y z : ℕ) → bit_xor (bit_and (bit_xor x y) (bit_xor y z)) y ≡ Maj x y z
unfolding Maj
Maj_by x y z =
    let p : ℕ = bit_and x y in
    let q : ℕ = bit_and x z in
    let r : ℕ = bit_and y z in
    let parts : bit_and (bit_xor x y) (bit_xor y z) ≡ bit_xor (bit_xor p q) (bit_xor y r) =
    and_xor x y (bit_xor y z) ∙ ap₂ bit_xor (xor_and x y z) (xor_and y y z ∙ ap (λ (n : ℕ). bit_xor n r) (and_self y)) in
    ap (λ (n : ℕ). bit_xor n y) parts ∙ xor_assoc (bit_xor p q) (bit_xor y r) y
    ∙ ap (bit_xor (bit_xor p q)) (xor_comm (bit_xor y r) y ∙ xor_twice y r)

-- the rotations of an upper sigma, each on from the one before
pub upper_by :
    (w i j k x : ℕ) → i + (j + k) ≤ w → x < 2 ^ w
    → rotr w i (bit_xor (rotr w j (bit_xor (rotr w k x) x)) x) ≡ upper_sigma w i (i + j) (i + (j + k)) x
unfolding upper_sigma
upper_by w i j k x h hx =
    let inner : ℕ = bit_xor (rotr w k x) x in
    let small : inner < 2 ^ w = xor_lt w (rotr w k x) x (rotr_lt w k x hx) hx in
    let first : rotr w j inner ≡ bit_xor (rotr w (j + k) x) (rotr w j x) =
    rotr_xor w j (rotr w k x) x (omega arith) (rotr_lt w k x hx) hx
    ∙ ap (λ (n : ℕ). bit_xor n (rotr w j x)) (rotr-rotr w j k x (omega arith) hx) in
    let second : rotr w i (rotr w j inner) ≡ bit_xor (rotr w (i + (j + k)) x) (rotr w (i + j) x) =
    ap (rotr w i) first ∙ rotr_xor w i (rotr w (j + k) x) (rotr w j x) (omega arith) (rotr_lt w (j + k) x hx) (rotr_lt w j x hx)
    ∙ ap₂ bit_xor (rotr-rotr w i (j + k) x h hx) (rotr-rotr w i j x (omega arith) hx) in
    rotr_xor w i (rotr w j inner) x (omega arith) (rotr_lt w j inner small) hx
    ∙ ap (λ (n : ℕ). bit_xor n (rotr w i x)) second
    ∙ xor_comm (bit_xor (rotr w (i + (j + k)) x) (rotr w (i + j) x)) (rotr w i x)
    ∙ ap (bit_xor (rotr w i x)) (xor_comm (rotr w (i + (j + k)) x) (rotr w (i + j) x))
    ∙ sym (xor_assoc (rotr w i x) (rotr w (i + j) x) (rotr w (i + (j + k)) x))

pub lower_by :
    (w i j k x : ℕ) → i + j ≤ w → x < 2 ^ w
    → bit_xor (rotr w i (bit_xor (rotr w j x) x)) (shr k x) ≡ lower_sigma w i (i + j) k x
unfolding lower_sigma
lower_by w i j k x h hx =
    ap (λ (n : ℕ). bit_xor n (shr k x))
    (rotr_xor w i (rotr w j x) x (omega arith) (rotr_lt w j x hx) hx
    ∙ ap (λ (n : ℕ). bit_xor n (rotr w i x)) (rotr-rotr w i j x h hx) ∙ xor_comm (rotr w (i + j) x) (rotr w i x))

-- the same for amounts in rising order, each rotation on from the one before by what they differ in
pub upper_from :
    (w i j k x : ℕ) → i < j → j < k → k < w → x < 2 ^ w
    → rotr w i (bit_xor (rotr w (j - i) (bit_xor (rotr w (k - j) x) x)) x) ≡ upper_sigma w i j k x
upper_from w i j k x p q r hx =
    upper_by w i (j - i) (k - j) x (omega arith) hx ∙ ap₂ (λ (m n : ℕ). upper_sigma w i m n x) (omega arith) (omega arith)

pub lower_from :
    (w i j k x : ℕ) → i < j → j < w → x < 2 ^ w
    → bit_xor (rotr w i (bit_xor (rotr w (j - i) x) x)) (shr k x) ≡ lower_sigma w i j k x
lower_from w i j k x p q hx = lower_by w i (j - i) k x (omega arith) hx ∙ ap (λ (m : ℕ). lower_sigma w i m k x) (omega arith)
