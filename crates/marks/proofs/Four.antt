-- There are four marks, and the two findings tell them apart; and each test leaves no choice. Assumes nothing.
use mathlib.Core.Path.{◌≡◌, refl, sym, ◌∙◌}
use mathlib.Core.Bool.{Bool, true}
use Prim.Native.Nat.{ℕ, ◌/◌, ◌%◌, ◌<◌}
use native.Mathlib.Omega.{arith}
use borrow.Author.Tests.{eqb-true}
use Rattle.marks.specs.{attested, valid, marks_fit}

-- "other bits must be zero": the byte is below 4
pub below_four : (m : ℕ) → marks_fit m ≡ true → m < 4
below_four m h = let z : m / 4 ≡ 0 = eqb-true (m / 4) 0 h in omega arith

-- attested and valid: the mark that a counted entry needs
pub three : (m : ℕ) → marks_fit m ≡ true → attested m ≡ true → valid m ≡ true → m ≡ 3
three m h a v =
    let l : m < 4 = below_four m h in
    let p : m % 2 ≡ 1 = eqb-true (m % 2) 1 a in
    let q : m / 2 % 2 ≡ 1 = eqb-true (m / 2 % 2) 1 v in
    omega arith

pub three_is : (marks_fit 3 ≡ true) × (attested 3 ≡ true) × (valid 3 ≡ true)
three_is = (refl, refl, refl)

-- two outcomes that a test's contract allows are equal
module _ (m : ℕ) (x y : Bool) where
  pub attested_once : x ≡ attested m → y ≡ attested m → x ≡ y
  attested_once p q = p ∙ sym q

  pub valid_once : x ≡ valid m → y ≡ valid m → x ≡ y
  valid_once p q = p ∙ sym q

  pub marks_once : x ≡ marks_fit m → y ≡ marks_fit m → x ≡ y
  marks_once p q = p ∙ sym q
