-- Strings ordered by the numbers of their fronts. Assumes nothing.
use mathlib.Core.Path.{◌≡◌, refl, sym, ap, ap₂, ◌∙◌}
use mathlib.Core.Bool.{Bool, true, false, cond, ◌&&◌}
use mathlib.Core.List.{List, [], ◌∷◌, ◌++◌}
use Prim.Native.Nat.{ℕ, zero, suc, ◌+◌, ◌*◌, ◌^◌, ◌≤◌, ◌<◌}
use native.Mathlib.Nat.{zero-add, suc-add}
use native.Mathlib.Decide.{dec_lt}
use native.Mathlib.Omega.{arith}
use borrow.Author.Tests.{lt-ltb, le-ltb, eq-eqb, ne_eqb}
use lib.ListN.{length, take, drop, length-take, length-drop, take-append-drop}
use lib.Seq.{drop-drop}
use lib.Arith.{digits_lt}
use lib.Dec.{eqb, ltb, eqb-suc-suc, leb-suc-suc}
use Rattle.octets.specs.Numbers.{number_of}
use Rattle.octets.specs.Strings.{before}
use Rattle.octets.proofs.Exact.{Octets, octets_take, octets_drop, number_below}

sums : (m u v : ℕ) → (eqb (m + u) (m + v) ≡ eqb u v) × (ltb (m + u) (m + v) ≡ ltb u v)
sums zero u v = rw (zero-add u, zero-add v) (refl, refl)
sums (suc m) u v = rw (suc-add m u, suc-add m v, eqb-suc-suc (m + u) (m + v), leb-suc-suc (suc (m + u)) (m + v)) (sums m u v)

-- of two numbers the higher digits decide, and where these are the same the lower ones
digits :
    (p x y u v : ℕ) → u < p → v < p
    → (eqb (x * p + u) (y * p + v) ≡ (eqb x y && eqb u v)) × (ltb (x * p + u) (y * p + v) ≡ cond (eqb x y) (ltb u v) (ltb x y))
digits p x y u v hu hv = go (dec_lt x y) (dec_lt y x)
  where
    go :
        Dec (x < y) → Dec (y < x)
        → (eqb (x * p + u) (y * p + v) ≡ (eqb x y && eqb u v)) × (ltb (x * p + u) (y * p + v) ≡ cond (eqb x y) (ltb u v) (ltb x y))
    go (yes h) k =
        let less : x * p + u < y * p = digits_lt h hu in
        rw (ne_eqb x y (λ e. omega arith), lt-ltb x y h) (ne_eqb (x * p + u) (y * p + v) (λ e. omega arith), lt-ltb (x * p + u) (y * p + v) (omega arith))
    go (no h) (yes k) =
        let more : y * p + v < x * p = digits_lt k hv in
        rw (ne_eqb x y (λ e. omega arith), le-ltb x y (omega arith)) (ne_eqb (x * p + u) (y * p + v) (λ e. omega arith), le-ltb (x * p + u) (y * p + v) (omega arith))
    go (no h) (no k) =
        let e : x ≡ y = omega arith in
        rw (eq-eqb x y e, e) (sums (y * p) u v)

number_cons : (x : ℕ) (u : List ℕ) → number_of (x ∷ u) ≡ x * 256 ^ length u + number_of u
unfolding number_of
number_cons x u = refl

-- a byte more in front of two strings of one length
fronts :
    (x y : ℕ) (u v : List ℕ) → Octets u → Octets v → length u ≡ length v
    → (eqb (number_of (x ∷ u)) (number_of (y ∷ v)) ≡ (eqb x y && eqb (number_of u) (number_of v)))
    × (ltb (number_of (x ∷ u)) (number_of (y ∷ v)) ≡ cond (eqb x y) (ltb (number_of u) (number_of v)) (ltb x y))
fronts x y u v ou ov e =
    let below : number_of v < 256 ^ length u = rw (sym e) at (number_below v ov) in
    rw (number_cons x u, number_cons y v, sym e) (digits (256 ^ length u) x y (number_of u) (number_of v) (number_below u ou) below)

before_front :
    (u v a b : List ℕ) → Octets u → Octets v → length u ≡ length v
    → before (u ++ a) (v ++ b) ≡ cond (eqb (number_of u) (number_of v)) (before a b) (ltb (number_of u) (number_of v))
unfolding before number_of
before_front [] [] a b ou ov e = refl
before_front [] (y ∷ v) a b ou ov e = absurd (omega arith)
before_front (x ∷ u) [] a b ou ov e = absurd (omega arith)
before_front (x ∷ u) (y ∷ v) a b ou ov e =
    let f = fronts x y u v (λ i. ou (suc i)) (λ i. ov (suc i)) (omega arith) in
    ap (λ (p : Bool). cond (eqb x y) p (ltb x y)) (before_front u v a b (λ i. ou (suc i)) (λ i. ov (suc i)) (omega arith))
    ∙ both (eqb x y) (eqb (number_of u) (number_of v)) (before a b) (ltb (number_of u) (number_of v)) (ltb x y)
    ∙ sym (ap₂ (λ (p q : Bool). cond p (before a b) q) f.0 f.1)
  where
    both : (p q r s t : Bool) → cond p (cond q r s) t ≡ cond (p && q) r (cond p s t)
    both true q r s t = refl
    both false q r s t = refl

-- eight bytes from i on decide, or what is left behind them
pub before_eight :
    (a b : List ℕ) (i : ℕ) → Octets a → Octets b → i + 8 ≤ length a → i + 8 ≤ length b
    → before (drop i a) (drop i b)
    ≡ cond (eqb (number_of (take 8 (drop i a))) (number_of (take 8 (drop i b)))) (before (drop (i + 8) a) (drop (i + 8) b)) (ltb (number_of (take 8 (drop i a))) (number_of (take 8 (drop i b))))
before_eight a b i oa ob ha hb =
    ap₂ before (cut a) (cut b)
    ∙ before_front (eight a) (eight b) (drop (i + 8) a) (drop (i + 8) b) (octets a oa) (octets b ob) (simp (length-take, length-drop) (omega arith))
  where
    eight : List ℕ → List ℕ
    eight s = take 8 (drop i s)

    cut : (s : List ℕ) → drop i s ≡ eight s ++ drop (i + 8) s
    cut s = sym (take-append-drop 8 (drop i s)) ∙ ap (λ (l : List ℕ). eight s ++ l) (drop-drop 8 i s)

    octets : (s : List ℕ) → Octets s → Octets (eight s)
    octets s o = octets_take 8 (drop i s) (octets_drop i s o)
