-- Laws of texts put one behind the other: numbers, labels, lines. Assumes nothing.
use mathlib.Core.Path.{◌≡◌, refl, sym, ap, ◌∙◌}
use mathlib.Core.Bool.{Bool, true, false, cond}
use mathlib.Core.List.{List, [], ◌∷◌, ◌++◌, append_assoc, append-nil}
use Prim.Native.Nat.{ℕ, zero, suc, ◌+◌, ◌-◌, ◌*◌, ◌/◌, ◌%◌, ◌^◌, ◌≤◌, ◌<◌}
use native.Mathlib.Nat.{pow-succ', pow-le-pow_right}
use native.Mathlib.Decide.{dec_lt}
use native.Mathlib.Numerals.{add-one}
use native.Mathlib.Omega.{arith}
use borrow.Author.Tests.{lt-ltb, le-ltb}
use lib.ListN.{length, get_or, take, set, length-append, length-set}
use lib.Seq.{take-suc, take-suc-set}
use lib.Dec.{eqb, ltb, lit<}
use Rattle.io.specs.Digits.{hex_digit_ascii, last_digits}
use Rattle.octets.specs.Strings.{put}
use Rattle.octets.proofs.Puts.{put-put}
use Rattle.octets.proofs.Fronts.{put_none}
use Rattle.night.specs.declared.Line.{Line}
use Rattle.night.specs.declared.Totals.{Totals}
use Rattle.report.specs.Text.{hex_of, decimal, decimal_of, Placed}
use Rattle.report.specs.Printed.{newline, spaced, top_text, line_text, lines_text, blocks_name, racks_name, over_name, damaged_name, totals_text}

-- a text behind another
pub placed_then :
    (at : ℕ) (s t : List ℕ) (x y z : List ℕ) (q r : ℕ) → Placed q at x y s → Placed r q y z t → at + length s + length t ≤ length x → Placed r at x z (s ++ t)
placed_then at s t x y z q r p o h =
    record {
      next = omega (arith, p.next, o.next, length-append s t);
      left = o.left ∙ ap (λ (l : List ℕ). put l q t) p.left ∙ put-put x at s t q p.next h;
    }

-- a text behind another takes at most so much more
pub appended_short : (x t y : List ℕ) (k : ℕ) → y ≡ x ++ t → length t ≤ k → length y ≤ length x + k
appended_short x t y k e h = omega (arith, ap length e, length-append x t)

-- what is put part by part is the whole
module _ (s a b c d e : List ℕ) where
  pub line_parts : ((((s ++ a) ++ b) ++ c) ++ d) ++ e ≡ s ++ (a ++ ((b ++ c) ++ (d ++ e)))
  line_parts = simp append_assoc refl

  pub totals_parts : ((((s ++ a) ++ b) ++ c) ++ d) ++ e ≡ s ++ ((a ++ b) ++ ((c ++ d) ++ e))
  totals_parts = simp append_assoc refl

pub decimal_short : (k n : ℕ) → length (decimal k n) ≤ k
unfolding decimal
decimal_short zero n = omega arith
decimal_short (suc k) n = go (decimal_short k (n / 10)) (ltb n 10)
  where
    go : length (decimal k (n / 10)) ≤ k → (t : Bool) → length (cond t (hex_digit_ascii n ∷ []) (decimal k (n / 10) ++ (hex_digit_ascii (n % 10) ∷ []))) ≤ suc k
    go h true = omega arith
    go h false = omega (arith, length-append (decimal k (n / 10)) (hex_digit_ascii (n % 10) ∷ []))

pub number_short : (n : ℕ) → length (decimal_of n) ≤ 20
unfolding decimal_of
number_short n = decimal_short 20 n

ten_pow : (r : ℕ) → 1 ≤ 10 ^ r
ten_pow zero = omega arith
ten_pow (suc r) = omega (arith, ten_pow r, pow-succ' 10 r)

-- a number of 64 bits takes at most 20
pub fewest_few : (r n : ℕ) → n < 2 ^ 64 → (1 < r → 10 ^ (r - 1) ≤ n) → r ≤ 20
fewest_few r n h low = go (dec_lt 20 r)
  where
    go : Dec (20 < r) → r ≤ 20
    go (yes more) =
        let p : 10 ^ 20 ≤ 10 ^ (r - 1) = pow-le-pow_right {n = 10} (lit< tt) {i = 20} {j = r - 1} (omega arith) in
        absurd (omega (arith, low (omega arith)))
    go (no few) = omega arith

-- the fewest digits that hold a number
pub fewest_digits :
    (k r n : ℕ) → 1 ≤ r → r ≤ k → n < 10 ^ r → (1 < r → 10 ^ (r - 1) ≤ n) → last_digits 10 r n ≡ decimal k n
unfolding decimal
fewest_digits zero r n some few high low = absurd (omega arith)
fewest_digits (suc k) zero n some few high low = absurd (omega arith)
fewest_digits (suc k) (suc zero) n some few high low =
    let e : n % 10 ≡ n = omega arith in
    rw (e, lt-ltb n 10 (omega arith))
fewest_digits (suc k) (suc (suc r)) n some few high low =
    let p : 10 ^ suc (suc r) ≡ 10 * 10 ^ suc r = pow-succ' 10 (suc r) in
    let q : 10 ^ suc r ≡ 10 * 10 ^ r = pow-succ' 10 r in
    let m : suc (suc r) - 1 ≡ suc r = omega arith in
    let least : 10 ^ suc r ≤ n = rw m at (low (omega arith)) in
    let one : suc r - 1 ≡ r = omega arith in
    let rest : last_digits 10 (suc r) (n / 10) ≡ decimal k (n / 10) =
    fewest_digits k (suc r) (n / 10) (omega arith) (omega arith) (omega arith) (λ more. rw one (omega arith)) in
    rw (le-ltb n 10 (omega (arith, ten_pow r))) (ap (λ (l : List ℕ). l ++ (hex_digit_ascii (n % 10) ∷ [])) rest)

pub hex_more : (s : List ℕ) (b : ℕ) → hex_of (s ++ (b ∷ [])) ≡ hex_of s ++ (hex_digit_ascii (b / 16) ∷ hex_digit_ascii (b % 16) ∷ [])
unfolding hex_of
hex_more [] b = refl
hex_more (x ∷ s) b = ap (λ (l : List ℕ). hex_digit_ascii (x / 16) ∷ hex_digit_ascii (x % 16) ∷ l) (hex_more s b)

pub hex_length : (s : List ℕ) → length (hex_of s) ≡ 2 * length s
unfolding hex_of
hex_length [] = refl
hex_length (x ∷ s) = omega (arith, hex_length s)

-- two digits more in a text of digits
pub hex_stored :
    (text label : List ℕ) (i g h : ℕ) → i < length label → 2 * i + 1 < length text → take (2 * i) text ≡ hex_of (take i label)
    → g ≡ hex_digit_ascii (get_or label i 0 / 16) → h ≡ hex_digit_ascii (get_or label i 0 % 16)
    → take (2 * (i + 1)) (set (set text (2 * i) g) (2 * i + 1) h) ≡ hex_of (take (i + 1) label)
hex_stored text label i g h l w e p q =
    let two : 2 * (i + 1) ≡ suc (suc (2 * i)) = omega arith in
    let one : 2 * i + 1 ≡ suc (2 * i) = omega arith in
    let stored : take (suc (suc (2 * i))) (set (set text (2 * i) g) (suc (2 * i)) h) ≡ take (2 * i) text ++ (g ∷ []) ++ (h ∷ []) =
    take-suc-set (set text (2 * i) g) (suc (2 * i)) h (omega (arith, length-set text (2 * i) g))
    ∙ ap (λ (s : List ℕ). s ++ (h ∷ [])) (take-suc-set text (2 * i) g (omega arith)) in
    rw (two, one, stored, append_assoc (take (2 * i) text) (g ∷ []) (h ∷ []), e, p, q, add-one i, take-suc label i 0 l)
    (sym (hex_more (take i label) (get_or label i 0)))

pub lines_more : (ls : List Line) (l : Line) → lines_text (ls ++ (l ∷ [])) ≡ lines_text ls ++ line_text l
unfolding lines_text
lines_more [] l = append-nil (line_text l)
lines_more (x ∷ ls) l = ap (λ (s : List ℕ). line_text x ++ s) (lines_more ls l) ∙ sym (append_assoc (line_text x) (lines_text ls) (line_text l))

-- texts and numbers are short
pub named_short : (s : List ℕ) (n : ℕ) → length (s ++ decimal_of n) ≤ length s + 20
named_short s n = omega (arith, length-append s (decimal_of n), number_short n)

pub two_short : (s : List ℕ) (m : ℕ) (t : List ℕ) (n : ℕ) → length ((s ++ decimal_of m) ++ (t ++ decimal_of n)) ≤ length s + length t + 40
two_short s m t n = omega (arith, length-append (s ++ decimal_of m) (t ++ decimal_of n), named_short s m, named_short t n)

pub top_short : (a t : ℕ) → length (top_text a t) ≤ 21
unfolding top_text
top_short a t = go (eqb a 0)
  where
    go : (b : Bool) → length (cond b (32 ∷ 45 ∷ []) (spaced t)) ≤ 21
    go true = omega arith
    go false = omega (arith, number_short t)

pub totals_short : (t : Totals) → length (totals_text t) ≤ 110
unfolding totals_text
totals_short t =
    let a : List ℕ = (blocks_name ++ decimal_of t.blocks) ++ (racks_name ++ decimal_of t.racks) in
    let b : List ℕ = (over_name ++ decimal_of t.over) ++ (damaged_name ++ decimal_of t.damaged) in
    omega (
      arith,
      length-append a (b ++ newline),
      length-append b newline,
      two_short blocks_name t.blocks racks_name t.racks,
      two_short over_name t.over damaged_name t.damaged,
    )

pub placed_none : (at : ℕ) (x : List ℕ) → Placed at at x x []
placed_none at x = record { next = omega arith; left = sym (put_none x at) }
