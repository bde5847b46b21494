-- Labels in byte order, told by the two numbers that a label is; one that comes after another is not all zero. Assumes nothing.
use mathlib.Core.Path.{◌≡◌, refl, sym, ap, ap₂, ◌∙◌}
use mathlib.Core.Bool.{Bool, true, false, cond}
use mathlib.Core.List.{List}
use Prim.Native.Nat.{ℕ, ◌+◌, ◌-◌, ◌*◌, ◌≤◌, ◌<◌}
use native.Mathlib.Omega.{arith}
use native.Mathlib.Decide.{dec_lt}
use borrow.Author.Tests.{eq-eqb, ne_eqb, le-ltb}
use lib.ListN.{length, take, drop, length-take, length-drop}
use lib.Seq.{take-take, drop-drop}
use lib.Dec.{eqb, ltb}
use Rattle.octets.specs.Numbers.{number_of}
use Rattle.octets.specs.Strings.{all_zero, before}
use Rattle.octets.proofs.Compared.{before_at_end}
use Rattle.octets.proofs.Digits.{before_eight}
use Rattle.octets.proofs.Exact.{Octets, octets_take, octets_drop}
use Rattle.octets.proofs.Parts.{drop-take}
use Rattle.octets.proofs.Orders.{before_zeros}
use Rattle.rows.specs.Sizes.{row_bytes}
use Rattle.rows.specs.Row.{label_of}
use Rattle.rows.specs.Table.{rises}
use Rattle.rows.proofs.Tables.{rises_after}

-- of the same numbers neither is the smaller
unless_same : (x y : ℕ) → cond (eqb x y) false (ltb x y) ≡ ltb x y
unless_same x y = go (dec_lt x y)
  where
    either : (q : Bool) → cond q false false ≡ false
    either true = refl
    either false = refl

    go : Dec (x < y) → cond (eqb x y) false (ltb x y) ≡ ltb x y
    go (yes h) = rw (ne_eqb x y (λ e. omega arith)) refl
    go (no n) = rw (le-ltb x y (omega arith)) (either (eqb x y))

-- the number of the eight bytes from a place on
abbrev pub eight : List ℕ → ℕ → ℕ
eight rows at = number_of (take 8 (drop at rows))

-- the order of two labels: by their first numbers, and where these are the same by the second
abbrev pub by_halves : ℕ → ℕ → ℕ → ℕ → Bool
by_halves a b c d = cond (eqb a c) (ltb b d) (ltb a c)

before_sixteen :
    (a b : List ℕ) → Octets a → Octets b → length a ≡ 16 → length b ≡ 16
    → before a b ≡ by_halves (eight a 0) (eight a 8) (eight b 0) (eight b 8)
before_sixteen a b oa ob la lb =
    before_eight a b 0 oa ob (omega arith) (omega arith)
    ∙ ap (λ (p : Bool). cond (eqb (eight a 0) (eight b 0)) p (ltb (eight a 0) (eight b 0))) second
  where
    second : before (drop 8 a) (drop 8 b) ≡ ltb (eight a 8) (eight b 8)
    second =
        before_eight a b 8 oa ob (omega arith) (omega arith)
        ∙ ap (λ (p : Bool). cond (eqb (eight a 8) (eight b 8)) p (ltb (eight a 8) (eight b 8))) (before_at_end a b 16 (omega arith) ∙ ap (ltb 16) lb)
        ∙ unless_same (eight a 8) (eight b 8)

label_length : (rows : List ℕ) (i : ℕ) → row_bytes * i + row_bytes ≤ length rows → length (label_of rows i) ≡ 16
unfolding label_of
label_length rows i h = simp (length-take, length-drop) (omega arith)

-- a label that comes after another is not all zero
pub risen : (rows : List ℕ) (i : ℕ) → row_bytes * i + row_bytes ≤ length rows → (i ≡ 0 → ⊥) → rises rows i ≡ true → all_zero (label_of rows i) ≡ false
risen rows i h later e = go (all_zero (label_of rows i)) refl
  where
    go : (b : Bool) → all_zero (label_of rows i) ≡ b → all_zero (label_of rows i) ≡ false
    go false p = p
    go true p =
        let positive : 1 ≤ i = omega (arith, later) in
        let long = label_length rows (i - 1) (omega arith) ∙ sym (label_length rows i h) in
        let z : ◌≡◌ {A = Bool} true false = sym e ∙ sym (rises_after rows i later) ∙ before_zeros (label_of rows (i - 1)) (label_of rows i) long p in
        cc

-- the label at a place of a string, by its two numbers
module _ (s : List ℕ) (at : ℕ) where
  upper : eight (take 16 (drop at s)) 0 ≡ eight s at
  upper = ap number_of (take-take 8 16 (drop at s) (omega arith))

  lower : eight (take 16 (drop at s)) 8 ≡ eight s (at + 8)
  lower =
      ap number_of
      (ap (take 8) (drop-take 8 8 (drop at s) ∙ ap (take 8) (drop-drop 8 at s))
      ∙ take-take 8 8 (drop (at + 8) s) (omega arith))

module _ (s t : List ℕ) (os : Octets s) (ot : Octets t) (at from : ℕ) (hs : at + 16 ≤ length s) (ht : from + 16 ≤ length t) where
  pub before_labels :
      before (take 16 (drop at s)) (take 16 (drop from t)) ≡ by_halves (eight s at) (eight s (at + 8)) (eight t from) (eight t (from + 8))
  before_labels =
      before_sixteen (take 16 (drop at s)) (take 16 (drop from t))
      (octets_take 16 (drop at s) (octets_drop at s os)) (octets_take 16 (drop from t) (octets_drop from t ot))
      (simp (length-take, length-drop) (omega arith)) (simp (length-take, length-drop) (omega arith))
      ∙ ap₂ (λ (x y : ℕ). by_halves x y (eight (take 16 (drop from t)) 0) (eight (take 16 (drop from t)) 8)) (upper s at) (lower s at)
      ∙ ap₂ (λ (x y : ℕ). by_halves (eight s at) (eight s (at + 8)) x y) (upper t from) (lower t from)

  -- the first numbers decide, or where they are the same the second ones
  pub by_first : (eight s at ≡ eight t from → ⊥) → ltb (eight s at) (eight t from) ≡ before (take 16 (drop at s)) (take 16 (drop from t))
  by_first n = rw (before_labels, ne_eqb _ _ n)

  pub by_second :
      eight s at ≡ eight t from
      → ltb (eight s (at + 8)) (eight t (from + 8)) ≡ before (take 16 (drop at s)) (take 16 (drop from t))
  by_second e = rw (before_labels, eq-eqb _ _ e)
