-- The rows of a table and its flat bytes, one from the other and back without loss. Assumes nothing.
use mathlib.Core.Path.{◌≡◌, refl, sym, ap, ap₂, subst, ◌∙◌}
use Prim.Native.Nat.{ℕ, zero, suc, ◌+◌, ◌*◌, ◌^◌, ◌≤◌, ◌<◌}
use native.Mathlib.Nat.{mul-suc, not-suc-le-zero, le_of_suc-le-suc}
use native.Mathlib.Omega.{arith}
use native.Mathlib.Numerals.{add-one}
use mathlib.Core.List.{List, [], ◌∷◌, ◌++◌, append_assoc, map, flatten}
use lib.ListN.{length, get_or, take, drop, set, length-append, length-map, length-drop}
use lib.Seq.{take-suc, take-suc-set, take_at, drop_at, take_all, take-add, length-take-le}
use lib.Dec.{lit<}
use Rattle.octets.specs.Numbers.{number_of, bytes_of}
use Rattle.octets.specs.Strings.{put, pieces}
use Rattle.octets.proofs.Numbers.{bytes_length}
use Rattle.octets.proofs.Exact.{Octets, octets_take, octets_drop, number_bytes, number_below, bytes_number}
use Rattle.octets.proofs.Bytes.{octets_append, octets_number}
use Rattle.octets.proofs.Pieces.{Each, none, more, each_length, flatten_append, flatten_one, flatten-pieces, pieces-flatten, pieces_snoc}
use Rattle.octets.proofs.Puts.{take_put, put-length}
use Rattle.rows.specs.Sizes.{label_bytes, tail_bytes, height_bytes, row_bytes}
use Rattle.table.specs.declared.Row.{Row}
use Rattle.table.specs.Flat.{row_string, flattened, row_cut, rows_of}
pub use Rattle.table.specs.Typed.{Typed, AllTyped, nil, cons}

pub string_length : (r : Row) → Typed r → length (row_string r) ≡ row_bytes
unfolding row_string
string_length r t =
    simp (length-append, bytes_length) (omega (arith, t.label, t.tail))

same_row : (l t : List ℕ) (h : ℕ) (r : Row) → l ≡ r.label → t ≡ r.tail → h ≡ r.height → ◌≡◌ {A = Row} (record { label = l; tail = t; height = h }) r
same_row l t h r a b e = rw (a, b, e)

-- a row's bytes taken apart are the row
pub cut_string : (r : Row) → Typed r → row_cut (row_string r) ≡ r
unfolding row_string row_cut
cut_string r t =
    let n : List ℕ = bytes_of height_bytes r.height in
    let w : List ℕ = (r.label ++ r.tail) ++ n in
    let e : (r.label ++ r.tail) ++ n ≡ r.label ++ (r.tail ++ n) = append_assoc r.label r.tail n in
    let a : take label_bytes ((r.label ++ r.tail) ++ n) ≡ r.label = ap (take label_bytes) e ∙ take_at r.label (r.tail ++ n) label_bytes t.label in
    let d : drop label_bytes ((r.label ++ r.tail) ++ n) ≡ r.tail ++ n = ap (drop label_bytes) e ∙ drop_at r.label (r.tail ++ n) label_bytes t.label in
    let b : take tail_bytes (drop label_bytes ((r.label ++ r.tail) ++ n)) ≡ r.tail = ap (take tail_bytes) d ∙ take_at r.tail n tail_bytes t.tail in
    let f : drop (label_bytes + tail_bytes) ((r.label ++ r.tail) ++ n) ≡ n =
    drop_at (r.label ++ r.tail) n (label_bytes + tail_bytes) (length-append r.label r.tail ∙ ap₂ (λ (x y : ℕ). x + y) t.label t.tail) in
    let h : number_of (take height_bytes (drop (label_bytes + tail_bytes) ((r.label ++ r.tail) ++ n))) ≡ r.height =
    ap (λ (l : List ℕ). number_of (take height_bytes l)) f ∙ ap number_of (take_all height_bytes n (omega (arith, bytes_length height_bytes r.height))) ∙
    number_bytes height_bytes r.height
    t.height in
    same_row (take label_bytes w) (take tail_bytes (drop label_bytes w)) (number_of (take height_bytes (drop (label_bytes + tail_bytes) w))) r a b h

parts : (s : List ℕ) (n : ℕ) → take n s ++ drop n s ≡ s
parts s zero = refl
parts [] (suc n) = refl
parts (x ∷ s) (suc n) = ap (λ (l : List ℕ). x ∷ l) (parts s n)

-- the bytes of a row that is taken out of them are these bytes
pub string_cut : (s : List ℕ) → length s ≡ row_bytes → Octets s → row_string (row_cut s) ≡ s
unfolding row_string row_cut
string_cut s n o =
    let t : List ℕ = drop (label_bytes + tail_bytes) s in
    let l : length t ≡ height_bytes = length-drop (label_bytes + tail_bytes) s ∙ omega arith in
    let h : bytes_of height_bytes (number_of (take height_bytes t)) ≡ t =
    ap (λ (x : List ℕ). bytes_of height_bytes (number_of x)) (take_all height_bytes t (omega arith)) ∙ ap (λ (k : ℕ). bytes_of k (number_of t)) (sym l) ∙
    bytes_number t (octets_drop (label_bytes
    + tail_bytes) s o) in
    ap (λ (x : List ℕ). (take label_bytes s ++ take tail_bytes (drop label_bytes s)) ++ x) h
    ∙ ap (λ (x : List ℕ). x ++ t) (sym (take-add label_bytes tail_bytes s)) ∙ parts s (label_bytes + tail_bytes)

each_string : {rows : List Row} → AllTyped rows → Each row_bytes (map row_string rows)
each_string nil = none
each_string (cons {r} t ts) = more (string_length r t) (each_string ts)

cut_strings : {rows : List Row} → AllTyped rows → map row_cut (map row_string rows) ≡ rows
cut_strings nil = refl
cut_strings (cons {r} t ts) = ap₂ (λ (x : Row) (l : List Row). x ∷ l) (cut_string r t) (cut_strings ts)

pub flattened-length : {rows : List Row} → AllTyped rows → length (flattened rows) ≡ row_bytes * length rows
unfolding flattened
flattened-length {rows} ts = each_length (each_string ts) ∙ ap (λ (k : ℕ). row_bytes * k) (length-map rows row_string)

-- the rows of the bytes of rows are these rows
pub rows-flattened : {rows : List Row} → AllTyped rows → rows_of (length rows) (flattened rows) ≡ rows
unfolding flattened rows_of
rows-flattened {rows} ts =
    ap (λ (k : ℕ). map row_cut (pieces row_bytes k (flatten (map row_string rows)))) (sym (length-map rows row_string))
    ∙ ap (map row_cut) (pieces-flatten (each_string ts)) ∙ cut_strings ts

string_cuts : (n : ℕ) (s : List ℕ) → row_bytes * n ≤ length s → Octets s → map row_string (map row_cut (pieces row_bytes n s)) ≡ pieces row_bytes n s
unfolding pieces
string_cuts zero s h o = refl
string_cuts (suc n) s h o =
    let e : row_bytes * suc n ≡ row_bytes * n + row_bytes = mul-suc row_bytes n in
    let b : row_bytes * n ≤ length (drop row_bytes s) = omega (arith, length-drop row_bytes s) in
    ap₂ (λ (x : List ℕ) (l : List (List ℕ)). x ∷ l)
    (string_cut (take row_bytes s) (length-take-le row_bytes s (omega arith)) (octets_take row_bytes s o))
    (string_cuts n (drop row_bytes s) b (octets_drop row_bytes s o))

-- the bytes of the rows of a string are its first bytes
pub flattened_rows : (n : ℕ) (s : List ℕ) → row_bytes * n ≡ length s → Octets s → flattened (rows_of n s) ≡ s
unfolding flattened rows_of
flattened_rows n s e o =
    ap flatten (string_cuts n s (omega arith) o) ∙ flatten-pieces row_bytes n s ∙ take_all (row_bytes * n) s (omega arith)

-- the bytes of rows as their type has them are bytes
string_octets : (r : Row) → Typed r → Octets (row_string r)
unfolding row_string
string_octets r t =
    octets_append (r.label ++ r.tail) (bytes_of height_bytes r.height) (octets_append r.label r.tail t.label_octets t.tail_octets)
    (octets_number height_bytes r.height)

pub flattened_octets : {rows : List Row} → AllTyped rows → Octets (flattened rows)
unfolding flattened flatten
flattened_octets nil = λ i. lit< tt
flattened_octets (cons {r} {rs} t ts) = octets_append (row_string r) (flatten (map row_string rs)) (string_octets r t) (flattened_octets ts)

-- and the rows of bytes are as their type has them
cut_typed : (s : List ℕ) → length s ≡ row_bytes → Octets s → Typed (row_cut s)
unfolding row_cut
cut_typed s n o =
    let rest : List ℕ = drop (label_bytes + tail_bytes) s in
    let l : length (take height_bytes rest) ≡ height_bytes = length-take-le height_bytes rest (omega (arith, length-drop (label_bytes + tail_bytes) s)) in
    record {
      label = length-take-le label_bytes s (omega arith);
      tail = length-take-le tail_bytes (drop label_bytes s) (omega (arith, length-drop label_bytes s));
      height =
          subst (λ (m : ℕ). number_of (take height_bytes rest) < 256 ^ m) l
          (number_below (take height_bytes rest) (octets_take height_bytes rest (octets_drop (label_bytes + tail_bytes) s o)));
      label_octets = octets_take label_bytes s o;
      tail_octets = octets_take tail_bytes (drop label_bytes s) (octets_drop label_bytes s o);
    }

pub rows_of_typed : (n : ℕ) (s : List ℕ) → row_bytes * n ≤ length s → Octets s → AllTyped (rows_of n s)
unfolding rows_of pieces
rows_of_typed zero s h o = nil
rows_of_typed (suc n) s h o =
    let e : row_bytes * suc n ≡ row_bytes * n + row_bytes = mul-suc row_bytes n in
    cons (cut_typed (take row_bytes s) (length-take-le row_bytes s (omega arith)) (octets_take row_bytes s o))
    (rows_of_typed n (drop row_bytes s) (omega (arith, length-drop row_bytes s)) (octets_drop row_bytes s o))

pub typed_get : {rows : List Row} (i : ℕ) (d : Row) → AllTyped rows → i < length rows → Typed (get_or rows i d)
typed_get i d nil h = absurd (not-suc-le-zero h)
typed_get zero d (cons t ts) h = t
typed_get (suc i) d (cons t ts) h = typed_get i d ts (le_of_suc-le-suc h)

all_append : {rows more : List Row} → AllTyped rows → AllTyped more → AllTyped (rows ++ more)
all_append nil us = us
all_append (cons t ts) us = cons t (all_append ts us)

-- one row more is typed
pub typed_next :
    (rows : List Row) (i : ℕ) (d : Row) → i < length rows → AllTyped (take i rows) → Typed (get_or rows i d) → AllTyped (take (i + 1) rows)
typed_next rows i d h ts t =
    subst AllTyped (sym (ap (λ (n : ℕ). take n rows) (add-one i) ∙ take-suc rows i d h)) (all_append ts (cons t nil))

map_next : {A B : Type 0} (f : A → B) (l : List A) (x : A) → map f (l ++ (x ∷ [])) ≡ map f l ++ (f x ∷ [])
map_next f [] x = refl
map_next {B = B} f (y ∷ l) x = ap (λ (m : List B). f y ∷ m) (map_next f l x)

pub flattened_none : flattened [] ≡ []
unfolding flattened flatten
flattened_none = refl

pub rows_none : (s : List ℕ) → rows_of 0 s ≡ []
unfolding rows_of pieces
rows_none s = refl

-- one row more is put
pub flattened_next :
    (rows : List Row) (i : ℕ) (s t : List ℕ) (d : Row) → Typed (get_or rows i d) → i < length rows → row_bytes * i + row_bytes ≤ length s
    → take (row_bytes * i) s ≡ flattened (take i rows) → t ≡ put s (row_bytes * i) (row_string (get_or rows i d))
    → (length t ≡ length s) × (take (row_bytes * (i + 1)) t ≡ flattened (take (i + 1) rows))
unfolding flattened
flattened_next rows i s t d typed h n e p =
    let r : Row = get_or rows i d in
    let w : length (row_string r) ≡ row_bytes = string_length r typed in
    let k : row_bytes * (i + 1) ≡ row_bytes * i + length (row_string r) = omega arith in
    let m : map row_string (take (i + 1) rows) ≡ map row_string (take i rows) ++ (row_string r ∷ []) =
    ap (λ (j : ℕ). map row_string (take j rows)) (add-one i) ∙ ap (map row_string) (take-suc rows i d h) ∙ map_next row_string (take i rows) r in (
      ap length p ∙ put-length s (row_bytes * i) (row_string r) (omega arith),
      ap₂ (λ (j : ℕ) (l : List ℕ). take j l) k p ∙ take_put s (row_bytes * i) (row_string r) (omega arith) ∙ ap (λ (l : List ℕ). l ++ row_string r) e
          ∙ sym (ap flatten m ∙ flatten_append (map row_string (take i rows)) (row_string r ∷ []) ∙ ap (λ (l : List ℕ). flatten (map row_string (take i rows))
          ++ l) (flatten_one (row_string r))),
    )

-- one row more is taken out
pub rows_next :
    (rows : List Row) (i : ℕ) (s : List ℕ) (r : Row) → i < length rows → take i rows ≡ rows_of i s → r ≡ row_cut (take row_bytes (drop (row_bytes * i) s))
    → take (i + 1) (set rows i r) ≡ rows_of (i + 1) s
unfolding rows_of
rows_next rows i s r h e q =
    ap (λ (j : ℕ). take j (set rows i r)) (add-one i) ∙ take-suc-set rows i r h ∙ ap₂ (λ (l : List Row) (x : Row). l ++ (x ∷ [])) e q
    ∙ sym (ap (map row_cut) (pieces_snoc row_bytes i s) ∙ map_next row_cut (pieces row_bytes i s) (take row_bytes (drop (row_bytes * i) s)))
