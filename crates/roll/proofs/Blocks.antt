-- Laws of a roll's blocks: how many, how long, and what stands in them. Assumes nothing.
use mathlib.Core.Path.{◌≡◌, refl, sym, ap, ◌∙◌}
use mathlib.Core.Bool.{Bool, true, false, ◌&&◌}
use mathlib.Core.List.{List, ◌++◌}
use Prim.Native.Nat.{ℕ, zero, suc, ◌+◌, ◌-◌, ◌*◌, ◌/◌, ◌≤◌}
use native.Mathlib.Nat.{not-suc-le-zero}
use native.Mathlib.Omega.{arith}
use native.Mathlib.Numerals.{add-one}
use borrow.Author.Tests.{eqb-true, eqb-false, eq-eqb, ne_eqb}
use lib.ListN.{length, take, drop, length-append, length-take, length-drop, get_or-append}
use lib.Seq.{take_all, take_at, take-add, length-take-le}
use lib.Dec.{eqb}
use Rattle.octets.specs.Strings.{put, same}
use Rattle.octets.proofs.Puts.{put-put, put-length}
use Rattle.hash.specs.Sha256.{sha256}
use Rattle.rows.proofs.Messages.{front_put, two_put_end}
use Rattle.rows.specs.Table.{each}
use Rattle.rows.specs.Sizes.{most_rows, table_bytes}
use Rattle.roll.specs.Blocks.{places, places_bytes, head_bytes, checked_bytes, check_bytes, block_bytes, count_place, blocks, head, places_of, checked, block, first_blocks}
use Rattle.roll.specs.Roll.{said_count}
use Rattle.hash.proofs.Promised.{sha256-length}
use Rattle.roll.proofs.Strings.{same_append}

pub blocks_none : (count : ℕ) → count ≡ 0 → blocks count ≡ 1
unfolding blocks
blocks_none count z = rw (eq-eqb count 0 z)

pub blocks_some : (count : ℕ) → (count ≡ 0 → ⊥) → blocks count ≡ (count + (places - 1)) / places
unfolding blocks
blocks_some count n = rw (ne_eqb count 0 n)

-- at least one block, and a place for each row
pub blocks_hold : (count : ℕ) → (1 ≤ blocks count) × (count ≤ places * blocks count)
blocks_hold count = go (eqb count 0) refl
  where
    go : (t : Bool) → eqb count 0 ≡ t → (1 ≤ blocks count) × (count ≤ places * blocks count)
    go true e = let z : count ≡ 0 = eqb-true count 0 e in omega (arith, blocks_none count z)
    go false e = let n : (count ≡ 0 → ⊥) = eqb-false count 0 e in omega (arith, blocks_some count n)

-- the places of all blocks are within the table
pub blocks_within : (count : ℕ) → count ≤ most_rows → places_bytes * blocks count ≤ table_bytes
blocks_within count h = go (eqb count 0) refl
  where
    go : (t : Bool) → eqb count 0 ≡ t → places_bytes * blocks count ≤ table_bytes
    go true e = let z : count ≡ 0 = eqb-true count 0 e in omega (arith, blocks_none count z)
    go false e = let n : (count ≡ 0 → ⊥) = eqb-false count 0 e in omega (arith, blocks_some count n)

-- block b of a roll stands at its place in a string
abbrev pub stands_at : ℕ → List ℕ → List ℕ → ℕ → Bool
stands_at count rows s b = same (block count rows b) (take block_bytes (drop (block_bytes * b) s))

module _ (count : ℕ) (rows : List ℕ) where
  pub places_length : (b : ℕ) → places_bytes * b + places_bytes ≤ length rows → length (places_of rows b) ≡ places_bytes
  unfolding places_of
  places_length b h = simp (length-take, length-drop) (omega arith)

  pub block_length : (b : ℕ) → places_bytes * b + places_bytes ≤ length rows → length (block count rows b) ≡ block_bytes
  unfolding block checked head
  block_length b h =
      let s : List ℕ = head count b ++ places_of rows b in
      simp (length-append, length-take, sha256-length) (omega (arith, places_length b h))

  pub first_length : (n : ℕ) → places_bytes * n ≤ length rows → length (first_blocks count rows n) ≡ block_bytes * n
  unfolding first_blocks
  first_length zero h = refl
  first_length (suc n) h =
      omega (arith, length-append (first_blocks count rows n) (block count rows n), first_length n (omega arith), block_length n (omega arith))

  -- the places stand behind the head
  pub block_places : (b : ℕ) → places_bytes * b + places_bytes ≤ length rows → take places_bytes (drop head_bytes (block count rows b)) ≡ places_of rows b
  unfolding block checked head
  block_places b h = take_at (places_of rows b) _ places_bytes (places_length b h)

  -- each string of blocks says the roll's count
  first_said : (n : ℕ) → places_bytes * suc n ≤ length rows → said_count (first_blocks count rows (suc n)) ≡ count
  unfolding said_count first_blocks block checked head
  first_said zero h = refl
  first_said (suc n) h =
      get_or-append (first_blocks count rows (suc n)) (block count rows (suc n)) 0 count_place (omega (arith, first_length (suc n) (omega arith)))
      ∙ first_said n (omega arith)

  pub blocks_say : (n : ℕ) → 1 ≤ n → places_bytes * n ≤ length rows → said_count (first_blocks count rows n) ≡ count
  blocks_say zero h k = absurd (not-suc-le-zero h)
  blocks_say (suc n) h k = first_said n k

  -- a string is the first n blocks where each block is the one that stands at its place
  pub first_same :
      (s : List ℕ) (n : ℕ) → places_bytes * n ≤ length rows → block_bytes * n ≤ length s
      → same (first_blocks count rows n) (take (block_bytes * n) s) ≡ each (stands_at count rows s) n
  unfolding first_blocks each same
  first_same s zero h k = refl
  first_same s (suc n) h k =
      let e : block_bytes * suc n ≡ block_bytes * n + block_bytes = omega arith in
      let l : length (first_blocks count rows n) ≡ length (take (block_bytes * n) s) = first_length n (omega arith) ∙ sym (length-take-le (block_bytes * n) s (omega arith)) in
      ap (same (first_blocks count rows (suc n))) (ap (λ (m : ℕ). take m s) e ∙ take-add (block_bytes * n) block_bytes s)
      ∙ same_append (first_blocks count rows n) (take (block_bytes * n) s) (block count rows n) (take block_bytes (drop (block_bytes * n) s)) l
      ∙ ap (λ (t : Bool). t && same (block count rows n) (take block_bytes (drop (block_bytes * n) s))) (first_same s n (omega arith) (omega arith))

  -- a string is all the blocks of a roll where each block stands at its place
  pub all_same :
      (s : List ℕ) → count ≤ most_rows → length rows ≡ table_bytes → block_bytes * blocks count ≡ length s
      → same (first_blocks count rows (blocks count)) s ≡ each (stands_at count rows s) (blocks count)
  all_same s h t e =
      ap (same (first_blocks count rows (blocks count))) (sym (take_all (block_bytes * blocks count) s (omega arith)))
      ∙ first_same s (blocks count) (omega (arith, blocks_within count h)) (omega arith)

  -- one block more, put behind those that stand at the front of an area
  pub first_put_next :
      (area : List ℕ) (n : ℕ) → places_bytes * n + places_bytes ≤ length rows → block_bytes * n + block_bytes ≤ length area
      → put (put area 0 (first_blocks count rows n)) (block_bytes * n) (block count rows n) ≡ put area 0 (first_blocks count rows (n + 1))
  unfolding first_blocks
  first_put_next area n h k =
      let f = first_length n (omega arith) in
      let b = block_length n h in
      rw (add-one n) (put-put area 0 (first_blocks count rows n) (block count rows n) (block_bytes * n) (omega arith) (omega arith))

  pub first_put_length :
      (area : List ℕ) (n : ℕ) → places_bytes * n ≤ length rows → block_bytes * n ≤ length area → length (put area 0 (first_blocks count rows n)) ≡ length area
  first_put_length area n h k = put-length area 0 (first_blocks count rows n) (omega (arith, first_length n h))

-- places put behind the head of a buffer, and the check put behind them
pub block_made :
    (d p : List ℕ) → length d ≡ block_bytes → length p ≡ places_bytes
    → put (put d head_bytes p) checked_bytes (take check_bytes (sha256 (take checked_bytes (put d head_bytes p)))) ≡ checked (take head_bytes d ++ p)
unfolding checked
block_made d p h e =
    let x : List ℕ = take check_bytes (sha256 (take head_bytes d ++ p)) in
    let l : length x ≡ check_bytes = simp (length-take, sha256-length) in
    ap (λ (m : List ℕ). put (put d head_bytes p) checked_bytes (take check_bytes (sha256 m))) (front_put d p head_bytes checked_bytes (omega arith) (omega arith))
    ∙ two_put_end d head_bytes p x checked_bytes (omega arith) (omega arith)
