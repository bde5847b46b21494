-- Rows of which a part is taken from others: none, one after the other, all, and those in which two tables differ. Assumes nothing.
use mathlib.Core.Path.{◌≡◌, refl, sym, ap, ap₂, ◌∙◌}
use Prim.Native.Nat.{ℕ, zero, suc, ◌+◌, ◌-◌, ◌*◌, ◌≤◌, ◌<◌}
use native.Mathlib.Omega.{arith}
use native.Mathlib.Numerals.{add-one}
use mathlib.Core.List.{List, [], ◌∷◌, ◌++◌, append_assoc, append-nil, map}
use lib.ListN.{length, get_or, set, take, drop, replicate, length-append, length-map, length-drop, take-append-drop, drop_of_length-le}
use lib.Seq.{take_all, take-add, take_at, take-take, take-suc, take-append-le, drop_at, drop-cons, append_snoc, set_at, get_or_at, get_or-drop, length-take-le}
use Rattle.octets.specs.Numbers.{bytes_of}
use Rattle.octets.specs.Strings.{put, pieces}
use Rattle.octets.proofs.Numbers.{bytes_length}
use Rattle.octets.proofs.Parts.{take-replicate, drop-replicate}
use Rattle.octets.proofs.Pieces.{pieces_append, pieces_front, pieces-length}
use Rattle.octets.proofs.Puts.{put-length, drop-put}
use Rattle.rows.specs.Sizes.{label_bytes, tail_bytes, height_bytes, row_bytes, most_rows, table_bytes}
use Rattle.rules.specs.Table.{moved}
use Rattle.table.specs.declared.Row.{Row}
use Rattle.table.specs.Flat.{row_cut, rows_of, rows_put, blank_rows}

-- a row that is out of range
abbrev pub no_row : Row
no_row = record { label = []; tail = []; height = 0 }

module _ (old new : List Row) where
  pub put_none : rows_put 0 0 old new ≡ old
  unfolding rows_put
  put_none = refl

  pub put_each : length old ≡ most_rows → length new ≡ most_rows → rows_put 0 most_rows old new ≡ new
  unfolding rows_put
  put_each a b =
      ap₂ (λ (l m : List Row). l ++ m) (take_all most_rows new (omega arith)) (drop_of_length-le old {i = most_rows} (omega arith)) ∙ append-nil new

  pub put_start : (i : ℕ) → i ≤ length old → old ≡ rows_put i i old new
  unfolding rows_put
  put_start i h =
      let e : i - i ≡ 0 = omega arith in
      sym (ap (λ (k : ℕ). take i old ++ take k (drop i new) ++ drop i old) e ∙ ap (λ (l : List Row). l ++ drop i old) (append-nil (take i old))
      ∙ take-append-drop i old)

  module _ (same : length new ≡ length old) (i j : ℕ) (h : i ≤ j) where
    front : j ≤ length old → length (take i old ++ take (j - i) (drop i new)) ≡ j
    front k =
        let e : length (drop i new) ≡ length new - i = length-drop i new in
        length-append (take i old) (take (j - i) (drop i new))
        ∙ ap₂ (λ (m n : ℕ). m + n) (length-take-le i old (omega arith)) (length-take-le (j - i) (drop i new) (omega arith)) ∙ omega arith

    pub put_size : j ≤ length old → length (rows_put i j old new) ≡ length old
    unfolding rows_put
    put_size k =
        length-append (take i old ++ take (j - i) (drop i new)) (drop j old) ∙ ap₂ (λ (m n : ℕ). m + n) (front k) (length-drop j old) ∙ omega arith

    -- one row more
    pub put_next : (d : Row) → j < length old → set (rows_put i j old new) j (get_or new j d) ≡ rows_put i (j + 1) old new
    unfolding rows_put
    put_next d k =
        let a : List Row = take i old in
        let b : List Row = take (j - i) (drop i new) in
        let r : Row = get_or new j d in
        let e : i + (j - i) ≡ j = omega arith in
        let m : j + 1 - i ≡ suc (j - i) = omega arith in
        let w : length (drop i new) ≡ length new - i = length-drop i new in
        let g : get_or (drop i new) (j - i) d ≡ r = get_or-drop i new (j - i) d ∙ ap (λ (n : ℕ). get_or new n d) e in
        let c : take (j + 1 - i) (drop i new) ≡ b ++ (r ∷ []) =
        ap (λ (n : ℕ). take n (drop i new)) m ∙ take-suc (drop i new) (j - i) d (omega arith) ∙ ap (λ (x : Row). b ++ (x ∷ [])) g in
        ap (λ (l : List Row). set (a ++ b ++ l) j r) (drop-cons old j d k)
        ∙ set_at (a ++ b) (get_or old j d) (drop (suc j) old) r j (front (omega arith))
        ∙ sym (append_snoc (a ++ b) r (drop (suc j) old))
        ∙ ap (λ (l : List Row). l ++ drop (suc j) old) (append_assoc a b (r ∷ []) ∙ ap (λ (l : List Row). a ++ l) (sym c))
        ∙ ap (λ (n : ℕ). a ++ take (j + 1 - i) (drop i new) ++ drop n old) (sym (add-one j))

  -- the others differ nowhere else
  put_between : (i j : ℕ) → i ≤ j → take i new ≡ take i old → drop j new ≡ drop j old → rows_put i j old new ≡ new
  unfolding rows_put
  put_between i j h a b =
      let e : i + (j - i) ≡ j = omega arith in
      ap₂ (λ (l m : List Row). l ++ take (j - i) (drop i new) ++ m) (sym a) (sym b)
      ∙ ap (λ (l : List Row). l ++ drop j new) (sym (take-add i (j - i) new) ∙ ap (λ (k : ℕ). take k new) e)
      ∙ take-append-drop j new

map_both : {A B : Type 0} (f : A → B) (l m : List A) → map f (l ++ m) ≡ map f l ++ map f m
map_both f [] m = refl
map_both {B = B} f (x ∷ l) m = ap (λ (n : List B). f x ∷ n) (map_both f l m)

pub rows_length : (n : ℕ) (s : List ℕ) → length (rows_of n s) ≡ n
unfolding rows_of
rows_length n s = length-map (pieces row_bytes n s) row_cut ∙ pieces-length row_bytes n s

rows_append : (m n : ℕ) (s : List ℕ) → rows_of (m + n) s ≡ rows_of m s ++ rows_of n (drop (row_bytes * m) s)
unfolding rows_of
rows_append m n s =
    ap (map row_cut) (pieces_append row_bytes m n s) ∙ map_both row_cut (pieces row_bytes m s) (pieces row_bytes n (drop (row_bytes * m) s))

-- the first rows are those of the first bytes, and the rest those of the rest
rows_first : (n : ℕ) (s : List ℕ) → row_bytes * n ≤ length s → rows_of n s ≡ rows_of n (take (row_bytes * n) s)
unfolding rows_of
rows_first n s h =
    let k : ℕ = row_bytes * n in
    ap (map row_cut)
    (ap (pieces row_bytes n) (sym (take-append-drop k s))
    ∙ pieces_front row_bytes n (take k s) (drop k s) (omega (arith, length-take-le k s h)))

module _ (n : ℕ) (s : List ℕ) (i : ℕ) (h : i ≤ n) where
  cut : rows_of n s ≡ rows_of i s ++ rows_of (n - i) (drop (row_bytes * i) s)
  cut = let e : n ≡ i + (n - i) = omega arith in ap (λ (k : ℕ). rows_of k s) e ∙ rows_append i (n - i) s

  rows_take : row_bytes * i ≤ length s → take i (rows_of n s) ≡ rows_of i (take (row_bytes * i) s)
  rows_take b =
      ap (take i) cut ∙ take_at (rows_of i s) (rows_of (n - i) (drop (row_bytes * i) s)) i (rows_length i s) ∙ rows_first i s b

  rows_drop : drop i (rows_of n s) ≡ rows_of (n - i) (drop (row_bytes * i) s)
  rows_drop = ap (drop i) cut ∙ drop_at (rows_of i s) (rows_of (n - i) (drop (row_bytes * i) s)) i (rows_length i s)

-- a row of a table
pub rows_get : (n : ℕ) (s : List ℕ) (i : ℕ) (d : Row) → i < n → get_or (rows_of n s) i d ≡ row_cut (take row_bytes (drop (row_bytes * i) s))
unfolding rows_of pieces
rows_get n s i d h =
    let e : n - i ≡ suc (n - i - 1) = omega arith in
    let t : List ℕ = drop (row_bytes * i) s in
    ap (λ (l : List Row). get_or l i d) (cut n s i (omega arith) ∙ ap (λ (k : ℕ). rows_of i s ++ rows_of k t) e)
    ∙ get_or_at (rows_of i s) (row_cut (take row_bytes t)) (rows_of (n - i - 1) (drop row_bytes t)) d i (rows_length i s)

-- the rows of zeros, one by one
zeros : (n : ℕ) → rows_of n (replicate (row_bytes * n) 0) ≡ replicate n (row_cut (replicate row_bytes 0))
unfolding rows_of pieces
zeros zero = refl
zeros (suc n) =
    let e : row_bytes * suc n ≡ row_bytes + row_bytes * n = omega arith in
    ap₂ (λ (r : Row) (rows : List Row). r ∷ rows)
    (ap (λ (m : ℕ). row_cut (take row_bytes (replicate m 0))) e
    ∙ ap row_cut (take-replicate row_bytes (row_bytes + row_bytes * n) 0 (omega arith)))
    (ap (λ (m : ℕ). rows_of n (drop row_bytes (replicate m 0))) e
    ∙ ap (rows_of n) (drop-replicate row_bytes (row_bytes * n) 0)
    ∙ zeros n)

pub blank_each : blank_rows ≡ replicate most_rows (row_cut (replicate row_bytes 0))
unfolding blank_rows
blank_each = zeros most_rows

-- two tables that differ in the rows from i to before j alone
pub rows_between :
    (n : ℕ) (s t : List ℕ) (i j : ℕ) → i ≤ j → j ≤ n → row_bytes * i ≤ length s → row_bytes * i ≤ length t
    → take (row_bytes * i) t ≡ take (row_bytes * i) s → drop (row_bytes * j) t ≡ drop (row_bytes * j) s
    → rows_put i j (rows_of n s) (rows_of n t) ≡ rows_of n t
rows_between n s t i j h k ls lt a b =
    put_between (rows_of n s) (rows_of n t) i j h
    (rows_take n t i (omega arith) lt ∙ ap (rows_of i) a ∙ sym (rows_take n s i (omega arith) ls))
    (rows_drop n t j k ∙ ap (rows_of (n - j)) b ∙ sym (rows_drop n s j k))

take_before : (d : List ℕ) (at : ℕ) (s : List ℕ) (n : ℕ) → n ≤ at → at ≤ length d → take n (put d at s) ≡ take n d
unfolding put
take_before d at s n h b =
    let rest : List ℕ = drop (at + length s) d in
    ap (take n) (append_assoc (take at d) s rest) ∙ take-append-le n (take at d) (s ++ rest) (omega (arith, length-take-le at d b)) ∙ take-take n at d h

-- tail and height of row i put anew
pub row_put :
    (s : List ℕ) (i : ℕ) (r : List ℕ) → i < most_rows → length s ≡ table_bytes → length r ≡ tail_bytes + height_bytes
    → rows_put i (i + 1) (rows_of most_rows s) (rows_of most_rows (put s (row_bytes * i + label_bytes) r))
    ≡ rows_of most_rows (put s (row_bytes * i + label_bytes) r)
row_put s i r h n w =
    let at : ℕ = row_bytes * i + label_bytes in
    let e : at + length r ≡ row_bytes * (i + 1) = omega arith in
    rows_between most_rows s (put s at r) i (i + 1) (omega arith) (omega arith) (omega arith)
    (omega (arith, put-length s at r (omega arith)))
    (take_before s at r (row_bytes * i) (omega arith) (omega arith))
    (ap (λ (k : ℕ). drop k (put s at r)) (sym e) ∙ drop-put s at r (omega arith) ∙ ap (λ (k : ℕ). drop k s) e)

pub row_moved :
    (s : List ℕ) (i : ℕ) (tail : List ℕ) (height : ℕ) → i < most_rows → length s ≡ table_bytes → length tail ≡ tail_bytes
    → rows_put i (i + 1) (rows_of most_rows s) (rows_of most_rows (moved s i tail height)) ≡ rows_of most_rows (moved s i tail height)
unfolding moved
row_moved s i tail height h n w =
    row_put s i (tail ++ bytes_of height_bytes height) h n
    (length-append tail (bytes_of height_bytes height) ∙ ap₂ (λ (a b : ℕ). a + b) w (bytes_length height_bytes height))
