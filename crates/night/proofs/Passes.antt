-- The pass in pieces, and the sum that is kept. Assumes nothing.
use mathlib.Core.Path.{◌≡◌, refl, sym, ap, ap₂, ◌∙◌}
use mathlib.Core.List.{List, [], ◌∷◌, ◌++◌, append-nil}
use Prim.Native.Nat.{ℕ, zero, suc, ◌+◌, ◌*◌, ◌≤◌, ◌<◌, min}
use native.Mathlib.Nat.{zero-add, add-zero, add-suc}
use native.Mathlib.Omega.{arith}
use native.Mathlib.Numerals.{add-one}
use lib.ListN.{length, take, drop, length-append, length-drop, drop_of_length-le}
use lib.Seq.{take_all, take_at, drop_at, drop-drop, take-append-le, drop-append-le, drop-append-add}
use Rattle.checks.specs.Check.{block_bytes, block_at}
use Rattle.night.specs.declared.Night.{Night}
use Rattle.night.specs.Lines.{counted_in}
use Rattle.night.specs.Pass.{step, start, blocks, passed}
use Rattle.night.proofs.Keeping.{kept_start, kept_passed, passed-blocks}

pub passed_next : (n : Night) (s : List ℕ) (i : ℕ) → passed n s (i + 1) ≡ step (passed n s i) (block_at s i)
unfolding passed
passed_next n s i = rw (add-one i)

pub passed_none : (n : Night) (s : List ℕ) → passed n s 0 ≡ n
unfolding passed
passed_none n s = refl

-- what comes off the front of a string, a whole block or all that is left
module _ (x : List ℕ) where
  chunk_taken : (r : List ℕ) → length x ≡ min block_bytes (length (x ++ r)) → take block_bytes (x ++ r) ≡ x
  chunk_taken [] l = rw append-nil (take_all block_bytes x (omega (arith, length-append x [])))
  chunk_taken (y ∷ r) l = take_at x (y ∷ r) block_bytes (omega (arith, length-append x (y ∷ r)))

  chunk_left : (r : List ℕ) → length x ≡ min block_bytes (length (x ++ r)) → drop block_bytes (x ++ r) ≡ r
  chunk_left [] l = drop_of_length-le (x ++ []) {i = block_bytes} (omega (arith, length-append x []))
  chunk_left (y ∷ r) l = drop_at x (y ∷ r) block_bytes (omega (arith, length-append x (y ∷ r)))

-- a string cut into blocks: the one that comes next, and what is left behind it
module _ (s : List ℕ) (i size : ℕ) (rest x r : List ℕ) (h : drop (block_bytes * i) s ≡ rest) (e : rest ≡ x ++ r) (z : size ≡ block_bytes)
    (l : length x ≡ min size (length rest)) where
  long : length x ≡ min block_bytes (length (x ++ r))
  long = rw (e, z) at l

  pub block_here : block_at s i ≡ x
  unfolding block_at
  block_here = ap (take block_bytes) (h ∙ e) ∙ chunk_taken x r long

  pub blocks_left : drop (block_bytes * (i + 1)) s ≡ r
  blocks_left =
      let n : block_bytes * (i + 1) ≡ block_bytes * i + block_bytes = omega arith in
      ap (λ (k : ℕ). drop k s) n ∙ sym (drop-drop block_bytes (block_bytes * i) s) ∙ ap (drop block_bytes) (h ∙ e) ∙ chunk_left x r long

module _ (s : List ℕ) (i : ℕ) (rest : List ℕ) (h : drop (block_bytes * i) s ≡ rest) where
  pub block_within : 0 < length rest → i + 1 ≤ blocks s
  unfolding blocks
  block_within n = omega (arith, ap length h, length-drop (block_bytes * i) s)

  -- where nothing is left, all blocks were passed
  pub blocks_over : i ≤ blocks s → length rest ≡ 0 → i ≡ blocks s
  unfolding blocks
  blocks_over w n = omega (arith, ap length h, length-drop (block_bytes * i) s)

-- a string in two pieces, the first of whole blocks
module _ (a b : List ℕ) (m : ℕ) (whole : length a ≡ block_bytes * m) where
  block_front : (j : ℕ) → j < m → block_at (a ++ b) j ≡ block_at a j
  unfolding block_at
  block_front j h =
      ap (take block_bytes) (drop-append-le (block_bytes * j) a b (omega arith))
      ∙ take-append-le block_bytes (drop (block_bytes * j) a) b (omega (arith, length-drop (block_bytes * j) a))

  block_behind : (i : ℕ) → block_at (a ++ b) (m + i) ≡ block_at b i
  unfolding block_at
  block_behind i =
      let e : block_bytes * (m + i) ≡ length a + block_bytes * i = omega arith in
      rw e (ap (take block_bytes) (drop-append-add a b (block_bytes * i)))

  passed_front : (n : Night) (j : ℕ) → j ≤ m → passed n (a ++ b) j ≡ passed n a j
  unfolding passed
  passed_front n zero h = refl
  passed_front n (suc j) h = ap₂ step (passed_front n j (omega arith)) (block_front j (omega arith))

  -- so the pieces of a file may be passed one after the other
  pub passed_pieces : (n : Night) (i : ℕ) → passed n (a ++ b) (m + i) ≡ passed (passed n a m) b i
  unfolding passed
  passed_pieces n zero = rw (add-zero m) (passed_front n m (omega arith))
  passed_pieces n (suc i) = rw (add-suc m i) (ap₂ step (passed_pieces n i) (block_behind i))

-- "Blocks, the file's length over 512 rounded up, is the sum of racks, accepted, refused, over and damaged."
pub sum_of_blocks :
    (file : List ℕ) (n : Night) → n ≡ passed start file (blocks file)
    → (n.totals.blocks ≡ blocks file) × (n.totals.blocks ≡ n.totals.racks + counted_in (take n.known n.lines) + n.totals.over + n.totals.damaged)
unfolding start
sum_of_blocks file n e = (ap (λ (m : Night). m.totals.blocks) e ∙ passed-blocks start file (blocks file) ∙ zero-add (blocks file), rw (sym e) at (kept_passed start file kept_start (blocks file)).sum)
