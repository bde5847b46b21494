use mathlib.Core.Path.{◌≡◌, refl, sym, ap, ap₂, ◌∙◌}
use mathlib.Core.List.{List, ◌∷◌}
use Prim.Native.Nat.{ℕ, ◌+◌, ◌-◌, ◌*◌, ◌≤◌}
use native.Mathlib.Omega.{arith}
use lib.ListN.{length, take, drop, length-take, length-drop}
use Rattle.octets.specs.Strings.{put}
use Rattle.octets.proofs.Puts.{put-put}
use Rattle.hash.specs.Sha256.{sha256}
use Rattle.rows.specs.Sizes.{row_bytes, table_bytes}
use Rattle.rows.specs.Digests.{roll_mark, roll_string, roll_digest}
use Rattle.roll.specs.Blocks.{blocks, block_bytes, places_bytes, head_bytes, gathered}
use Rattle.roll.specs.Roll.{said_count, roll_layout}
use Rattle.roll.proofs.Strings.{put_none}
use Rattle.roll.proofs.Blocks.{blocks_within}
use Rattle.roll.proofs.Cuts.{gathered-length, gathered_next}
use Rattle.roll.proofs.Rolls.{cut_table}
use Rattle.roll.proofs.Spreads.{all_held, digest_string}
use Rattle.roll.proofs.digest.digest_in.Goals as goal
use Rattle.roll.proofs.digest.digest_in.Goals.{After-blocks_in-b-end}

-- the blocks are the string, and their places are within the message
sized :
    (c : After-blocks_in-b-end)
    → (block_bytes * c.blocks_in-b-end.result ≡ length c.args.s.now) × (places_bytes * c.blocks_in-b-end.result ≤ table_bytes)
unfolding said_count
sized c =
    let start = c in
    (omega (arith, c.blocks_in-b-end.ensures, start.requires.long), omega (arith, c.blocks_in-b-end.ensures, blocks_within (said_count start.args.s.now) start.requires.few))

pub loop-b-init : goal.loop-b-init
unfolding gathered
loop-b-init c = (refl, refl, sym (put_none _ 2))

pub overflow_mul-from : goal.overflow_mul-from
overflow_mul-from c = omega (arith, sized (goal.at.overflow_mul-from c).After-blocks_in-b-end)

pub overflow_add-from : goal.overflow_add-from
overflow_add-from c = omega (arith, sized (goal.at.overflow_add-from c).After-blocks_in-b-end)

pub slice_bounds-copy_at-end : goal.slice_bounds-copy_at-end
slice_bounds-copy_at-end c = sym c.loop-b.invariant.1

pub overflow_mul-b : goal.overflow_mul-b
overflow_mul-b c = omega (arith, sized (goal.at.overflow_mul-b c).After-blocks_in-b-end)

pub overflow_add-b : goal.overflow_add-b
overflow_add-b c = omega (arith, sized (goal.at.overflow_add-b c).After-blocks_in-b-end)

pub overflow_add-from-in-loop-b : goal.overflow_add-from-in-loop-b
overflow_add-from-in-loop-b c = omega (arith, sized (goal.at.overflow_add-from-in-loop-b c).After-blocks_in-b-end)

pub slice_bounds-copy_at-end-in-loop-b : goal.slice_bounds-copy_at-end-in-loop-b
slice_bounds-copy_at-end-in-loop-b c = omega (arith, sized (goal.at.slice_bounds-copy_at-end-in-loop-b c).After-blocks_in-b-end)

pub copy_at-requires : goal.copy_at-requires
copy_at-requires c =
    let fit = sized (goal.at.copy_at-requires c).After-blocks_in-b-end in
    let l = c.loop-b.invariant.1 in
    simp (length-take, length-drop) (omega arith)

pub loop-b-preserved : goal.loop-b-preserved
loop-b-preserved c =
    let l = c.loop-b in
    let s = c.args.s.now in
    let fit = sized (goal.at.loop-b-preserved c).After-blocks_in-b-end in
    let g = gathered-length s l.b (omega arith) in
    let p : List ℕ = take places_bytes (drop (block_bytes * l.b + head_bytes) s) in
    let k : length p ≡ places_bytes = simp (length-take, length-drop) (omega arith) in
    let e : block_bytes * l.b + head_bytes + places_bytes - (block_bytes * l.b + head_bytes) ≡ places_bytes = omega arith in (
      l.invariant.0,
      c.copy_at.auto.dst ∙ l.invariant.1,
      c.copy_at.ensures
          ∙ ap₂ (λ (d : List ℕ) (m : ℕ). put d (2 + places_bytes * l.b) (take m (drop (block_bytes * l.b + head_bytes) s))) l.invariant.2 e
          ∙ put-put _ 2 (gathered s l.b) p (2 + places_bytes * l.b) (omega arith) (omega (arith, l.invariant.0))
          ∙ ap (put _ 2) (sym (gathered_next s l.b)),
    )

pub overflow_mul-size : goal.overflow_mul-size
unfolding roll_layout
overflow_mul-size c =
    let start = c in
    omega (arith, c.count_in.ensures, start.requires.few)

pub overflow_add-size : goal.overflow_add-size
unfolding roll_layout
overflow_add-size c =
    let start = c in
    omega (arith, c.count_in.ensures, start.requires.few)

pub slice_bounds-message-end : goal.slice_bounds-message-end
unfolding roll_layout
slice_bounds-message-end c =
    let start = c in
    omega (arith, c.count_in.ensures, start.requires.few)

pub slice_bounds-digest-end : goal.slice_bounds-digest-end
unfolding roll_layout
slice_bounds-digest-end c = simp length-take (omega (arith, c.loop-b.invariant.1, c.count_in.ensures, c.requires.few))

pub digest-requires : goal.digest-requires
digest-requires c = simp length-take (omega (arith, c.loop-b.invariant.1))

pub returns : goal.returns
unfolding said_count roll_layout roll_string roll_digest
returns c =
    let start = c in
    let s = start.args.s.now in
    let l = c.loop-b in
    let e : l.b ≡ blocks (said_count s) = omega (arith, c.blocks_in-b-end.ensures) in
    c.digest.ensures
    ∙ ap sha256
    (ap₂ (λ (k : ℕ) (m : List ℕ). take (2 + row_bytes * k) m) c.count_in.ensures (rw e at l.invariant.2)
    ∙ digest_string s start.requires _ l.invariant.0
    ∙ ap (λ (k : ℕ). roll_mark ∷ k ∷ take (row_bytes * said_count s) (cut_table s)) c.said_count.ensures
    ∙ ap (λ (k : ℕ). roll_mark ∷ k ∷ take (row_bytes * k) (cut_table s)) (sym (all_held s start.requires)))
