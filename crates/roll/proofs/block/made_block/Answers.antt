use mathlib.Core.Path.{◌≡◌, refl, ap, ap₂, ◌∙◌}
use mathlib.Core.List.{List, ◌++◌}
use Prim.Native.Nat.{ℕ, ◌+◌, ◌-◌, ◌*◌}
use native.Mathlib.Omega.{arith}
use lib.ListN.{take, drop, length-take, length-drop}
use Rattle.octets.specs.Strings.{put}
use Rattle.hash.specs.Sha256.{sha256}
use Rattle.rows.proofs.Messages.{front_put}
use Rattle.roll.specs.Blocks.{head, places_of, checked, block, places_bytes, head_bytes, checked_bytes, check_bytes}
use Rattle.roll.proofs.Blocks.{blocks_within, block_made}
use Rattle.roll.proofs.block.made_block.Goals as goal

pub overflow_mul-from : goal.overflow_mul-from
overflow_mul-from c = omega (arith, blocks_within c.args.count c.requires.0)

pub overflow_add-from : goal.overflow_add-from
overflow_add-from c = omega (arith, blocks_within c.args.count c.requires.0)

pub slice_bounds-copy_at-end-4 : goal.slice_bounds-copy_at-end-4
slice_bounds-copy_at-end-4 c = omega (arith, blocks_within c.args.count c.requires.0)

pub slice_bounds-check_of-end : goal.slice_bounds-check_of-end
slice_bounds-check_of-end c = simp length-take (omega (arith, c.copy_at-2.auto.dst, c.copy_at.auto.dst))

pub check_of-check-requires : goal.check_of-check-requires
check_of-check-requires c = simp length-take (omega arith)

pub returns : goal.returns
unfolding head block places_of
returns c =
    let o = c in
    let a = o.args in
    let r = a.rows.now in
    let most = blocks_within a.count o.requires.0 in
    let e : places_bytes * a.b + places_bytes - places_bytes * a.b ≡ places_bytes = omega arith in
    let part : List ℕ = take (places_bytes * a.b + places_bytes - places_bytes * a.b) (drop (places_bytes * a.b) r) in
    let headed = c.copy_at in
    let second = c.copy_at-2.ensures in
    c.copy_at-3.ensures
    ∙ ap₂ (λ (d x : List ℕ). put d checked_bytes x) second
    (c.check_of-check.ensures ∙ ap (λ (d : List ℕ). take check_bytes (sha256 (take checked_bytes d))) second)
    ∙ block_made _ part headed.auto.dst (simp (length-take, length-drop) (omega arith))
    ∙ ap₂ (λ (h : List ℕ) (m : ℕ). checked (h ++ take m (drop (places_bytes * a.b) r)))
    (ap (take head_bytes) (headed.ensures ∙ ap (put _ 0)
    c.head_of.ensures) ∙ front_put _
    (head a.count a.b) 0 head_bytes refl (omega arith)) e
