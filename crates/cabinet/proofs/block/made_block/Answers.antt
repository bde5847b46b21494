use mathlib.Core.Path.{◌≡◌, refl, ap, ap₂, ◌∙◌}
use mathlib.Core.List.{List}
use Prim.Native.Nat.{ℕ}
use native.Mathlib.Omega.{arith}
use lib.ListN.{length, length-take}
use Rattle.octets.specs.Strings.{put}
use Rattle.octets.specs.Numbers.{bytes_of}
use Rattle.octets.proofs.Numbers.{high_first}
use Rattle.checks.specs.Check.{block_bytes, checked_bytes}
use Rattle.cabinet.proofs.Blocks.{block_built}
use Rattle.cabinet.proofs.block.made_block.Goals as goal

pub slice_bounds-check_of-end : goal.slice_bounds-check_of-end
slice_bounds-check_of-end c = simp length-take (omega (arith, c.copy_at-5.auto.dst))

pub check_of-check-requires : goal.check_of-check-requires
check_of-check-requires c = simp length-take (omega arith)

pub returns : goal.returns
returns c =
    let a = c.args in
    let g = c.well_formed in
    let l : length a.label ≡ 16 = omega (arith, g.0) in
    let d : length a.digest ≡ 32 = omega (arith, g.1.1.0) in
    let t : length a.tail ≡ 32 = omega (arith, g.1.1.1.0) in
    let n = length a.text.now in
    let five = c.copy_at-5.ensures
    ∙ ap (λ (x : List ℕ). put x 90 a.text.now) (c.copy_at-4.ensures
    ∙ ap₂ (λ (x s : List ℕ). put x 88 s) (c.copy_at-3.ensures
    ∙ ap (λ (x : List ℕ). put x 56 a.tail) (c.copy_at-2.ensures
    ∙ ap (λ (x : List ℕ). put x 24 a.digest) (c.put_number.ensures
    ∙ ap (λ (x : List ℕ). put x 16 (bytes_of 8 a.height)) c.copy_at.ensures))) (c.to_be_bytes.ensures ∙ high_first 2 n)) in
    c.copy_at-6.ensures ∙ ap (put _ checked_bytes) c.check_of-check.ensures
    ∙ block_built block_bytes a.label a.height a.digest a.tail a.text.now _ refl l d t c.requires five
