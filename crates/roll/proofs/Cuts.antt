-- A roll cut out of its blocks: the places of each block, gathered, and the table that they make up. Assumes nothing.
use mathlib.Core.Path.{◌≡◌, refl, sym, ap, ap₂, ◌∙◌}
use mathlib.Core.Bool.{true}
use mathlib.Core.List.{List, ◌++◌}
use Prim.Native.Nat.{ℕ, zero, suc, ◌+◌, ◌-◌, ◌*◌, ◌≤◌}
use native.Mathlib.Numerals.{add-one}
use native.Mathlib.Omega.{arith}
use lib.ListN.{length, take, drop, replicate, length-append, length-take, length-drop}
use lib.Seq.{take-add, drop-append-add, take-append-le, drop-append-le}
use lib.Dec.{lit<}
use Rattle.octets.specs.Layouts.{holds}
use Rattle.octets.proofs.Exact.{Octets, octets_take, octets_drop}
use Rattle.octets.proofs.Bytes.{octets_append, octets_zeros}
use Rattle.octets.proofs.RoundTrips.{holds_fits}
use Rattle.rows.specs.Sizes.{table_bytes}
use Rattle.rows.proofs.Tables.{fit_length}
use Rattle.roll.specs.Blocks.{places_of, block, first_blocks, gathered, head_bytes, block_bytes, places_bytes, blocks}
use Rattle.roll.specs.Roll.{said_count, filled, roll_layout}
use Rattle.roll.proofs.Blocks.{first_length, block_places}

pub gathered-length : (s : List ℕ) (n : ℕ) → block_bytes * n ≤ length s → length (gathered s n) ≡ places_bytes * n
unfolding gathered
gathered-length s zero h = refl
gathered-length s (suc n) h =
    let p : List ℕ = take places_bytes (drop (block_bytes * n + head_bytes) s) in
    let l : length p ≡ places_bytes = simp (length-take, length-drop) (omega arith) in
    omega (arith, length-append (gathered s n) p, gathered-length s n (omega arith))

-- what follows the blocks does not count
pub gathered_front : (s t : List ℕ) (n : ℕ) → block_bytes * n ≤ length s → gathered (s ++ t) n ≡ gathered s n
unfolding gathered
gathered_front s t zero h = refl
gathered_front s t (suc n) h =
    let l : places_bytes ≤ length (drop (block_bytes * n + head_bytes) s) = simp length-drop (omega arith) in
    ap₂ (λ (x y : List ℕ). x ++ y) (gathered_front s t n (omega arith))
    (ap (take places_bytes) (drop-append-le (block_bytes * n + head_bytes) s t (omega arith)) ∙ take-append-le places_bytes (drop (block_bytes * n + head_bytes) s) t l)

-- the places of the blocks of a table are the front of the table
pub gathered_blocks :
    (count : ℕ) (rows : List ℕ) (n : ℕ) → places_bytes * n ≤ length rows → gathered (first_blocks count rows n) n ≡ take (places_bytes * n) rows
unfolding gathered first_blocks places_of
gathered_blocks count rows zero h = refl
gathered_blocks count rows (suc n) h =
    let f : List ℕ = first_blocks count rows n in
    let b : List ℕ = block count rows n in
    let l : length f ≡ block_bytes * n = first_length count rows n (omega arith) in
    let at : drop (block_bytes * n + head_bytes) (f ++ b) ≡ drop head_bytes b = rw (← l) (drop-append-add f b head_bytes) in
    let e : places_bytes * n + places_bytes ≡ places_bytes * suc n = omega arith in
    ap₂ (λ (x y : List ℕ). x ++ take places_bytes y) (gathered_front f b n (omega arith) ∙ gathered_blocks count rows n (omega arith)) at
    ∙ ap (λ (y : List ℕ). take (places_bytes * n) rows ++ y) (block_places count rows n (omega arith))
    ∙ sym (take-add (places_bytes * n) places_bytes rows) ∙ ap (λ (k : ℕ). take k rows) e

-- the places of one block more
pub gathered_next : (s : List ℕ) (n : ℕ) → gathered s (n + 1) ≡ gathered s n ++ take places_bytes (drop (block_bytes * n + head_bytes) s)
unfolding gathered
gathered_next s n = rw (add-one n)

gathered_octets : (s : List ℕ) (n : ℕ) → Octets s → Octets (gathered s n)
unfolding gathered
gathered_octets s zero o = λ i. lit< tt
gathered_octets s (suc n) o =
    let at : ℕ = block_bytes * n + head_bytes in
    octets_append (gathered s n) (take places_bytes (drop at s)) (gathered_octets s n o) (octets_take places_bytes (drop at s) (octets_drop at s o))

-- the table that bytes are cut into is of bytes
pub cut_octets : (s : List ℕ) → Octets s → Octets (roll_layout.cut s).rows
unfolding roll_layout filled
cut_octets s o =
    let g : List ℕ = gathered s (blocks (said_count s)) in
    octets_append g (replicate (table_bytes - length g) 0) (gathered_octets s (blocks (said_count s)) o) (octets_zeros (table_bytes - length g))

-- and where they are a roll, it has the length of 63 rows
pub cut_long : (s : List ℕ) → holds roll_layout s ≡ true → length (roll_layout.cut s).rows ≡ table_bytes
unfolding roll_layout
cut_long s h = fit_length (said_count s) (filled table_bytes (gathered s (blocks (said_count s)))) (holds_fits roll_layout s h)
