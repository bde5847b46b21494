-- Laws of a string with the blocks that its count asks: what stands in its table stands in its blocks. Assumes nothing.
use mathlib.Core.Path.{◌≡◌, refl, sym, ap, ◌∙◌}
use mathlib.Core.Bool.{Bool, true, false, ◌&&◌, and-true}
use mathlib.Core.List.{List, ◌++◌}
use Prim.Native.Nat.{ℕ, zero, suc, ◌+◌, ◌-◌, ◌*◌, ◌/◌, ◌<◌, ◌≤◌}
use native.Mathlib.Decide.{dec_lt}
use native.Mathlib.Nat.{not-suc-le-zero}
use native.Mathlib.Omega.{arith}
use Rattle.std.specs.List.{list_all, range_with_len}
use lib.ListN.{length, take, drop, replicate, length-append, length-drop, take-append-drop}
use lib.Seq.{take-append-le, drop-append-le, drop_at, take-take, drop-drop, take-add, take-append-add, length-take-le}
use Rattle.octets.specs.Strings.{put, all_zero, same}
use Rattle.octets.specs.Numbers.{number_of}
use Rattle.octets.specs.Layouts.{holds}
use Rattle.octets.proofs.Parts.{drop-take}
use Rattle.octets.proofs.Puts.{take_put}
use Rattle.octets.proofs.Zeros.{zero_append, zeros_are}
use Rattle.octets.proofs.RoundTrips.{same_is, same_refl}
use Rattle.checks.specs.Check.{check, checked}
use Rattle.rows.specs.Sizes.{label_bytes, tail_bytes, height_bytes, row_bytes, table_bytes}
use Rattle.rows.specs.Row.{label_of, tail_of, height_of}
use Rattle.rows.specs.Search.{held}
use Rattle.rows.proofs.Searches.{held_all}
use Rattle.roll.specs.Blocks.{places, places_bytes, head_bytes, checked_bytes, block_bytes, blocks, head, places_of, block, gathered}
use Rattle.roll.specs.Roll.{said_count, filled, roll_layout}
use Rattle.roll.specs.Places.{Spread, row_at}
use Rattle.roll.proofs.Strings.{same_append, filled-length}
use Rattle.roll.proofs.Blocks.{blocks_hold, blocks_within}
use Rattle.roll.proofs.Cuts.{gathered-length}
use Rattle.roll.proofs.Rolls.{cut_table, holds_long, holds_few}

-- a part of a part
part_part : (x : List ℕ) (a l m : ℕ) → a + l ≤ m → take l (drop a (take m x)) ≡ take l (drop a x)
part_part x a l m h =
    let e : a + (m - a) ≡ m = omega arith in
    ap (λ (k : ℕ). take l (drop a (take k x))) (sym e) ∙ ap (take l) (drop-take a (m - a) x) ∙ take-take l (m - a) (drop a x) (omega arith)

-- a part of what is filled up
filled_part : (n : ℕ) (g : List ℕ) (k l : ℕ) → k + l ≤ length g → take l (drop k (filled n g)) ≡ take l (drop k g)
unfolding filled
filled_part n g k l h =
    ap (take l) (drop-append-le k g (replicate (n - length g) 0) (omega arith))
    ∙ take-append-le l (drop k g) (replicate (n - length g) 0) (simp length-drop (omega arith))

-- a block with these places, beside a string that has them
agree :
    (x y z : List ℕ) (t : Bool) → (t ≡ true → x ≡ y) → (t && same (check x) z) ≡ (t && same (check y) z)
agree x y z false e = refl
agree x y z true e = ap (λ (w : List ℕ). same (check w) z) (e refl)

checked-same :
    (h p y : List ℕ) → length h ≡ head_bytes → length y ≡ block_bytes → p ≡ take places_bytes (drop head_bytes y)
    → same (checked (h ++ p)) y ≡ (same h (take head_bytes y) && same (check (take checked_bytes y)) (drop checked_bytes y))
unfolding checked
checked-same h p y l k e =
    let front : take checked_bytes y ≡ take head_bytes y ++ p = take-add head_bytes places_bytes y ∙ ap (λ (x : List ℕ). take head_bytes y ++ x) (sym e) in
    let a : length p ≡ places_bytes = ap length e ∙ length-take-le places_bytes (drop head_bytes y) (omega (arith, length-drop head_bytes y)) in
    let b : length (take head_bytes y) ≡ head_bytes = length-take-le head_bytes y (omega arith) in
    let d : length (take checked_bytes y) ≡ checked_bytes = length-take-le checked_bytes y (omega arith) in
    let f : length (h ++ p) ≡ length (take checked_bytes y) = omega (arith, length-append h p) in
    ap (same (h ++ p ++ check (h ++ p))) (sym (take-append-drop checked_bytes y))
    ∙ same_append (h ++ p) (take checked_bytes y) (check (h ++ p)) (drop checked_bytes y) f
    ∙ ap (λ (t : Bool). t && same (check (h ++ p)) (drop checked_bytes y))
    (ap (same (h ++ p)) front ∙ same_append h (take head_bytes y) p p (l ∙ sym b) ∙ ap (λ (t : Bool). same h (take head_bytes y) && t) (same_refl p) ∙ and-true (same h (take head_bytes y)))
    ∙ agree (h ++ p) (take checked_bytes y) (drop checked_bytes y) (same h (take head_bytes y))
    (λ q. ap (λ (x : List ℕ). x ++ p) (same_is h (take head_bytes y) q) ∙ sym front)

-- the places of block b, among those of n blocks
gathered_at :
    (s : List ℕ) (n b : ℕ) → b < n → block_bytes * n ≤ length s
    → take places_bytes (drop (places_bytes * b) (gathered s n)) ≡ take places_bytes (drop (block_bytes * b + head_bytes) s)
unfolding gathered
gathered_at s zero b h l = absurd (not-suc-le-zero h)
gathered_at s (suc n) b h l = go (λ k. gathered_at s n b k (omega arith)) (dec_lt b n)
  where
    go :
        (b < n → take places_bytes (drop (places_bytes * b) (gathered s n)) ≡ take places_bytes (drop (block_bytes * b + head_bytes) s)) → Dec (b < n)
        → take places_bytes (drop (places_bytes * b) (gathered s n ++ take places_bytes (drop (block_bytes * n + head_bytes) s)))
        ≡ take places_bytes (drop (block_bytes * b + head_bytes) s)
    go earlier (yes k) =
        let g = gathered-length s n (omega arith) in
        ap (take places_bytes) (drop-append-le (places_bytes * b) (gathered s n) (take places_bytes (drop (block_bytes * n + head_bytes) s)) (omega arith))
        ∙ take-append-le places_bytes (drop (places_bytes * b) (gathered s n)) (take places_bytes (drop (block_bytes * n + head_bytes) s)) (simp length-drop (omega arith))
        ∙ earlier k
    go earlier (no k) =
        let e : b ≡ n = omega arith in
        rw e
        (ap (take places_bytes) (drop_at (gathered s n) (take places_bytes (drop (block_bytes * n + head_bytes) s)) (places_bytes * n) (gathered-length s n (omega arith)))
        ∙ take-take places_bytes places_bytes (drop (block_bytes * n + head_bytes) s) (omega arith))

module _ (s : List ℕ) (h : Spread s) where
  pub table_long : length (cut_table s) ≡ table_bytes
  table_long =
      filled-length table_bytes (gathered s (blocks (said_count s)))
      (omega (arith, h.long, gathered-length s (blocks (said_count s)) (omega (arith, h.long)), blocks_within (said_count s) h.few))

  -- a part of the places of block b
  in_block :
      (b a l : ℕ) → b < blocks (said_count s) → a + l ≤ places_bytes
      → take l (drop (places_bytes * b + a) (cut_table s)) ≡ take l (drop (block_bytes * b + head_bytes + a) s)
  in_block b a l k m =
      filled_part table_bytes (gathered s (blocks (said_count s))) (places_bytes * b + a) l
      (omega (arith, h.long, gathered-length s (blocks (said_count s)) (omega (arith, h.long))))
      ∙ ap (take l) (sym (drop-drop a (places_bytes * b) (gathered s (blocks (said_count s)))))
      ∙ sym (part_part (drop (places_bytes * b) (gathered s (blocks (said_count s)))) a l places_bytes m)
      ∙ ap (λ (x : List ℕ). take l (drop a x)) (gathered_at s (blocks (said_count s)) b k (omega (arith, h.long)))
      ∙ part_part (drop (block_bytes * b + head_bytes) s) a l places_bytes m
      ∙ ap (take l) (drop-drop a (block_bytes * b + head_bytes) s)

  -- a part of row i
  pub in_row :
      (i o l at from : ℕ) → at ≡ row_at i + o → from ≡ row_bytes * i + o → i < places * blocks (said_count s) → o + l ≤ row_bytes
      → take l (drop at s) ≡ take l (drop from (cut_table s))
  in_row i o l at from p q k m =
      let e : from ≡ places_bytes * (i / places) + (row_bytes * (i - places * (i / places)) + o) = omega arith in
      let f : at ≡ block_bytes * (i / places) + head_bytes + (row_bytes * (i - places * (i / places)) + o) = omega arith in
      ap (λ (x : ℕ). take l (drop x s)) f
      ∙ sym (in_block (i / places) (row_bytes * (i - places * (i / places)) + o) l (omega arith) (omega arith))
      ∙ ap (λ (x : ℕ). take l (drop x (cut_table s))) (sym e)

  pub label_cut : (i at : ℕ) → at ≡ row_at i → i < places * blocks (said_count s) → take label_bytes (drop at s) ≡ label_of (cut_table s) i
  unfolding label_of
  label_cut i at p k = in_row i 0 label_bytes at (row_bytes * i) (omega arith) (omega arith) k (omega arith)

  pub label_stands : (i at : ℕ) → at ≡ row_at i → i < places * blocks (said_count s) → take (at + label_bytes - at) (drop at s) ≡ label_of (cut_table s) i
  unfolding label_of
  label_stands i at p k =
      let e : at + label_bytes - at ≡ label_bytes = omega arith in
      rw e (label_cut i at p k)

  pub tail_cut : (i at : ℕ) → at ≡ row_at i + label_bytes → i < places * blocks (said_count s) → take tail_bytes (drop at s) ≡ tail_of (cut_table s) i
  unfolding tail_of
  tail_cut i at p k = in_row i label_bytes tail_bytes at (row_bytes * i + label_bytes) p (omega arith) k (omega arith)

  pub height_stands :
      (i at : ℕ) → at ≡ row_at i + label_bytes + tail_bytes → i < places * blocks (said_count s)
      → number_of (take height_bytes (drop at s)) ≡ height_of (cut_table s) i
  unfolding height_of
  height_stands i at p k =
      ap number_of (in_row i (label_bytes + tail_bytes) height_bytes at (row_bytes * i + label_bytes + tail_bytes) (omega arith) (omega arith) k (omega arith))

  -- the place of row i
  pub place_stands :
      (i at : ℕ) → at ≡ row_at i → i < places * blocks (said_count s) → take (at + row_bytes - at) (drop at s) ≡ take row_bytes (drop (row_bytes * i) (cut_table s))
  place_stands i at p k =
      let e : at + row_bytes - at ≡ row_bytes = omega arith in
      rw e (in_row i 0 row_bytes at (row_bytes * i) (omega arith) (omega arith) k (omega arith))

  -- the places from row i on, one by one, and those behind the last block
  pub rest_next :
      (i : ℕ)
      → all_zero (drop (row_bytes * i) (cut_table s))
      ≡ (all_zero (take row_bytes (drop (row_bytes * i) (cut_table s))) && all_zero (drop (row_bytes * (i + 1)) (cut_table s)))
  rest_next i =
      let e : row_bytes * i + row_bytes ≡ row_bytes * (i + 1) = omega arith in
      ap all_zero (sym (take-append-drop row_bytes (drop (row_bytes * i) (cut_table s))))
      ∙ zero_append (take row_bytes (drop (row_bytes * i) (cut_table s))) (drop row_bytes (drop (row_bytes * i) (cut_table s)))
      ∙ ap (λ (x : List ℕ). all_zero (take row_bytes (drop (row_bytes * i) (cut_table s))) && all_zero x)
      (drop-drop row_bytes (row_bytes * i) (cut_table s) ∙ ap (λ (k : ℕ). drop k (cut_table s)) e)

  pub rest_end : all_zero (drop (row_bytes * (places * blocks (said_count s))) (cut_table s)) ≡ true
  unfolding filled
  rest_end =
      let g = gathered-length s (blocks (said_count s)) (omega (arith, h.long)) in
      ap all_zero
      (drop_at (gathered s (blocks (said_count s))) (replicate (table_bytes - length (gathered s (blocks (said_count s)))) 0)
      (row_bytes * (places * blocks (said_count s))) (omega (arith, g)))
      ∙ zeros_are (table_bytes - length (gathered s (blocks (said_count s))))

  -- the place of row i is unused; and so are those behind it
  abbrev pub place_unused : ℕ → Bool
  place_unused i = all_zero (take row_bytes (drop (row_bytes * i) (cut_table s)))

  pub rest_unused :
      (n i : ℕ) → i + n ≡ places * blocks (said_count s)
      → list_all place_unused (range_with_len i n) ≡ all_zero (drop (row_bytes * i) (cut_table s))
  rest_unused zero i e = let k : i ≡ places * blocks (said_count s) = omega arith in rw k (sym rest_end)
  rest_unused (suc n) i e =
      ap (λ (t : Bool). place_unused i && t) (rest_unused n (i + 1) (omega arith)) ∙ sym (rest_next i)

  -- block b of what stands there has what stands at its place, but for head and check
  pub block_stands :
      (b : ℕ) → b < blocks (said_count s)
      → let y : List ℕ = take block_bytes (drop (block_bytes * b) s) in
      same (block (said_count s) (cut_table s) b) y ≡ (same (head (said_count s) b) (take head_bytes y) && same (check (take checked_bytes y)) (drop checked_bytes y))
  unfolding block places_of head
  block_stands b k =
      let z : places_bytes * b + 0 ≡ places_bytes * b = omega arith in
      let w : block_bytes * b + head_bytes + 0 ≡ block_bytes * b + head_bytes = omega arith in
      checked-same (head (said_count s) b) (places_of (cut_table s) b) (take block_bytes (drop (block_bytes * b) s)) refl
      (length-take-le block_bytes (drop (block_bytes * b) s) (omega (arith, h.long, length-drop (block_bytes * b) s)))
      (ap (λ (j : ℕ). take places_bytes (drop j (cut_table s))) (sym z)
      ∙ in_block b 0 places_bytes k (omega arith)
      ∙ ap (λ (j : ℕ). take places_bytes (drop j s)) w
      ∙ ap (take places_bytes) (sym (drop-drop head_bytes (block_bytes * b) s))
      ∙ sym (part_part (drop (block_bytes * b) s) head_bytes places_bytes block_bytes (omega arith)))

  -- what is hashed, where the places are put behind two bytes
  pub digest_string :
      (m : List ℕ) → length m ≡ 2 + table_bytes
      → take (2 + row_bytes * said_count s) (put m 2 (gathered s (blocks (said_count s)))) ≡ take 2 m ++ take (row_bytes * said_count s) (cut_table s)
  digest_string m e =
      let g = gathered-length s (blocks (said_count s)) (omega (arith, h.long)) in
      let hold = (blocks_hold (said_count s)).1 in
      let l : length (take 2 m) ≡ 2 = length-take-le 2 m (omega arith) in
      sym (take-take (2 + row_bytes * said_count s) (2 + length (gathered s (blocks (said_count s)))) (put m 2 (gathered s (blocks (said_count s)))) (omega arith))
      ∙ ap (take (2 + row_bytes * said_count s)) (take_put m 2 (gathered s (blocks (said_count s))) (omega arith))
      ∙ ap (λ (j : ℕ). take (j + row_bytes * said_count s) (take 2 m ++ gathered s (blocks (said_count s)))) (sym l)
      ∙ take-append-add (take 2 m) (gathered s (blocks (said_count s))) (row_bytes * said_count s)
      ∙ ap (λ (x : List ℕ). take 2 m ++ x) (sym (filled_part table_bytes (gathered s (blocks (said_count s))) 0 (row_bytes * said_count s) (omega arith)))

  -- a row lies within
  pub row_lies : (i : ℕ) → i < places * blocks (said_count s) → (row_at i + row_bytes ≤ length s) × (i < 63)
  row_lies i k = (omega (arith, h.long), omega (arith, blocks_within (said_count s) h.few))

  pub all_held : held (said_count s) (cut_table s) ≡ said_count s
  all_held = held_all (said_count s) (cut_table s) h.few (omega (arith, h.few, table_long))

  pub has_place : (i : ℕ) → i < said_count s → i < places * blocks (said_count s)
  has_place i k = omega (arith, (blocks_hold (said_count s)).1)

pub roll_spread : (s : List ℕ) → holds roll_layout s ≡ true → Spread s
roll_spread s h = record { few = holds_few s h; long = holds_long s h }

-- where a row's parts lie
pub ruleset row_places = (row_lies, blocks_within)
