-- Laws of a row as a part of its table, and of the parts of strings that are joined, cut or put into others. Assumes nothing.
use mathlib.Core.Path.{◌≡◌, sym, ap, ap₂, ◌∙◌}
use mathlib.Core.List.{List, ◌++◌, append_assoc}
use Prim.Native.Nat.{ℕ, ◌+◌, ◌-◌, ◌*◌, ◌≤◌}
use native.Mathlib.Omega.{arith}
use lib.ListN.{length, take, drop, length-append, length-drop}
use lib.Seq.{take-take, drop-drop, take-append-le, drop-append-le, drop-append-add, length-take-le, take_at, drop_at}
use Rattle.octets.specs.Numbers.{number_of}
use Rattle.octets.specs.Strings.{put}
use Rattle.octets.proofs.Parts.{drop-take}
use Rattle.octets.proofs.Puts.{drop-put}
use Rattle.statement.specs.Kinds.{digest_bytes}
use Rattle.rows.specs.Sizes.{label_bytes, tail_bytes, height_bytes, row_bytes}
use Rattle.rows.specs.Row.{label_of, tail_of, height_of}

-- a part of a joined string, of its front or of its back; and of a string cut off behind it
pub part_front : (x y : List ℕ) (p n : ℕ) → p + n ≤ length x → take n (drop p (x ++ y)) ≡ take n (drop p x)
part_front x y p n h =
    ap (take n) (drop-append-le p x y (omega arith)) ∙ take-append-le n (drop p x) y (omega (arith, length-drop p x))

pub part_back : (x y : List ℕ) (p n at : ℕ) → at ≡ length x + p → take n (drop at (x ++ y)) ≡ take n (drop p y)
part_back x y p n at e = ap (λ (j : ℕ). take n (drop j (x ++ y))) e ∙ ap (take n) (drop-append-add x y p)

pub part_cut : (s : List ℕ) (q p n : ℕ) → p + n ≤ q → take n (drop p (take q s)) ≡ take n (drop p s)
part_cut s q p n h =
    let e : q ≡ p + (q - p) = omega arith in
    ap (λ (j : ℕ). take n (drop p (take j s))) e ∙ ap (take n) (drop-take p (q - p) s) ∙ take-take n (q - p) (drop p s) (omega arith)

pub part_part : (s : List ℕ) (q p n : ℕ) → take n (drop p (drop q s)) ≡ take n (drop (q + p) s)
part_part s q p n = ap (take n) (drop-drop p q s)

pub part_long : (s : List ℕ) (p n : ℕ) → p + n ≤ length s → length (take n (drop p s)) ≡ n
part_long s p n h = length-take-le n (drop p s) (omega (arith, length-drop p s))

-- before, inside and behind what is put into a string
module _ (d : List ℕ) (at : ℕ) (s : List ℕ) (fits : at ≤ length d) where
  front_long : length (take at d ++ s) ≡ at + length s
  front_long = length-append (take at d) s ∙ ap (λ (j : ℕ). j + length s) (length-take-le at d fits)

  pub put_before : (p n : ℕ) → p + n ≤ at → take n (drop p (put d at s)) ≡ take n (drop p d)
  unfolding put
  put_before p n h =
      part_front (take at d ++ s) (drop (at + length s) d) p n (omega (arith, front_long))
      ∙ part_front (take at d) s p n (omega (arith, length-take-le at d fits)) ∙ part_cut d at p n h

  pub put_inside : (q p n : ℕ) → q ≡ at + p → p + n ≤ length s → take n (drop q (put d at s)) ≡ take n (drop p s)
  unfolding put
  put_inside q p n e h =
      part_front (take at d ++ s) (drop (at + length s) d) q n (omega (arith, front_long))
      ∙ part_back (take at d) s p n q (omega (arith, length-take-le at d fits))

  pub put_behind : (p n : ℕ) → at + length s ≤ p → take n (drop p (put d at s)) ≡ take n (drop p d)
  unfolding put
  put_behind p n h =
      let q : ℕ = p - (at + length s) in
      let e : at + length s + (p - (at + length s)) ≡ p = omega arith in
      part_back (take at d ++ s) (drop (at + length s) d) (p - (at + length s)) n p (omega (arith, front_long))
      ∙ part_part d (at + length s) (p - (at + length s)) n ∙ ap (λ (j : ℕ). take n (drop j d)) e

  pub put_dropped : (p : ℕ) → at + length s ≤ p → drop p (put d at s) ≡ drop p d
  put_dropped p h =
      let q : ℕ = at + length s in
      let e : at + length s + (p - (at + length s)) ≡ p = omega arith in
      ap (λ (j : ℕ). drop j (put d at s)) (sym e) ∙ sym (drop-drop (p - q) q (put d at s))
      ∙ ap (λ (l : List ℕ). drop (p - q) l) (drop-put d at s fits) ∙ drop-drop (p - q) q d ∙ ap (λ (j : ℕ). drop j d) e

  -- a string put over one that is as long
  pub put_over : (t : List ℕ) → length s ≡ length t → put (put d at s) at t ≡ put d at t
  unfolding put
  put_over t e =
      let rest : List ℕ = drop (at + length s) d in
      ap₂ (λ (x y : List ℕ). x ++ t ++ y)
      (ap (take at) (append_assoc (take at d) s rest) ∙ take_at (take at d) (s ++ rest) at (length-take-le at d fits))
      (ap (λ (n : ℕ). drop (at + n) (take at d ++ s ++ rest)) (sym e) ∙ drop_at (take at d ++ s) rest (at + length s) front_long
      ∙ ap (λ (n : ℕ). drop (at + n) d) e)

-- row i of a table, and its parts
unfoldable pub row_at : List ℕ → ℕ → List ℕ
row_at rows i = take row_bytes (drop (row_bytes * i) rows)

inner : (s : List ℕ) (at p n : ℕ) → p + n ≤ row_bytes → take n (drop (at + p) s) ≡ take n (drop p (take row_bytes (drop at s)))
inner s at p n h = sym (part_cut (drop at s) row_bytes p n h ∙ part_part s at p n)

module _ (rows : List ℕ) (i : ℕ) where
  pub label_in : label_of rows i ≡ take label_bytes (row_at rows i)
  unfolding label_of row_at
  label_in = sym (take-take label_bytes row_bytes (drop (row_bytes * i) rows) (omega arith))

  pub tail_in : tail_of rows i ≡ take tail_bytes (drop label_bytes (row_at rows i))
  unfolding tail_of row_at
  tail_in = inner rows (row_bytes * i) label_bytes tail_bytes (omega arith)

  pub height_in_row : height_of rows i ≡ number_of (take height_bytes (drop (label_bytes + tail_bytes) (row_at rows i)))
  unfolding height_of row_at
  height_in_row =
      let e : row_bytes * i + label_bytes + tail_bytes ≡ row_bytes * i + (label_bytes + tail_bytes) = omega arith in
      ap (λ (j : ℕ). number_of (take height_bytes (drop j rows))) e
      ∙ ap number_of (inner rows (row_bytes * i) (label_bytes + tail_bytes) height_bytes (omega arith))

-- a row that is the same in two tables
module _ (a b : List ℕ) (i j : ℕ) (e : row_at a i ≡ row_at b j) where
  pub same_label : label_of a i ≡ label_of b j
  same_label = label_in a i ∙ ap (λ (r : List ℕ). take label_bytes r) e ∙ sym (label_in b j)

  pub same_tail : tail_of a i ≡ tail_of b j
  same_tail = tail_in a i ∙ ap (λ (r : List ℕ). take tail_bytes (drop label_bytes r)) e ∙ sym (tail_in b j)

  pub same_height : height_of a i ≡ height_of b j
  same_height = height_in_row a i ∙ ap (λ (r : List ℕ). number_of (take height_bytes (drop (label_bytes + tail_bytes) r))) e ∙ sym (height_in_row b j)

pub tail_long : (rows : List ℕ) (i : ℕ) → row_bytes * i + row_bytes ≤ length rows → length (tail_of rows i) ≡ digest_bytes
unfolding tail_of
tail_long rows i h = part_long rows (row_bytes * i + label_bytes) digest_bytes (omega arith)
