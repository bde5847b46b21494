use mathlib.Core.Path.{◌≡◌, refl, ap, ap₂, ◌∙◌}
use mathlib.Core.List.{List}
use Prim.Native.Nat.{ℕ, ◌*◌}
use native.Mathlib.Omega.{arith}
use lib.ListN.{length}
use Rattle.octets.specs.Strings.{put}
use Rattle.roll.specs.Blocks.{first_blocks, block_bytes}
use Rattle.roll.proofs.Blocks.{blocks_within, block_length, first_put_length, first_put_next}
use Rattle.roll.proofs.write.put_blocks.Goals as goal

pub loop-b-init : goal.loop-b-init
unfolding put first_blocks
loop-b-init c = refl

pub overflow_mul-b : goal.overflow_mul-b
overflow_mul-b c = omega (arith, blocks_within c.args.count c.requires.0)

pub copy_at-requires : goal.copy_at-requires
copy_at-requires c =
    let a = c.args in
    let p = c.requires in
    let l = c.loop-b in
    let most = blocks_within a.count p.0 in
    omega (
      arith,
      ap length c.made_block.ensures ∙ block_length a.count a.rows.now l.b (omega arith),
      ap length l.invariant ∙ first_put_length a.count a.rows.now a.area.now l.b (omega arith) (omega arith),
    )

pub loop-b-preserved : goal.loop-b-preserved
loop-b-preserved c =
    let a = c.args in
    let p = c.requires in
    let l = c.loop-b in
    let most = blocks_within a.count p.0 in
    c.copy_at.ensures
    ∙ ap₂ (λ (d x : List ℕ). put d (block_bytes * l.b) x) l.invariant c.made_block.ensures
    ∙ first_put_next a.count a.rows.now a.area.now l.b (omega arith) (omega arith)

pub shape_of-area : goal.shape_of-area
shape_of-area c =
    let a = c.args in
    let p = c.requires in
    let l = c.loop-b in
    let most = blocks_within a.count p.0 in
    ap length l.invariant ∙ first_put_length a.count a.rows.now a.area.now l.b (omega arith) (omega arith)

pub returns : goal.returns
returns c =
    let l = c.loop-b in
    let a = c.args in
    let e : l.b ≡ a.n = omega arith in
    rw e at l.invariant
