use mathlib.Core.Path.{◌≡◌, refl, sym, ap, ◌∙◌}
use mathlib.Core.Bool.{Bool, true, false, ◌&&◌}
use mathlib.Core.List.{List}
use Prim.Native.Nat.{ℕ, ◌+◌, ◌-◌, ◌*◌}
use native.Mathlib.Omega.{arith}
use borrow.Author.Tests.{eq-eqb, ne_eqb}
use lib.ListN.{take, drop}
use lib.Dec.{eqb}
use Rattle.octets.specs.Numbers.{number_of}
use Rattle.octets.specs.Strings.{same}
use Rattle.cabinet.specs.Block.{label_in, height_in}
use Rattle.store.specs.Area.{block_at}
use Rattle.listing.specs.Leading.{has_both}
use Rattle.listing.proofs.Answered.{part_there}
use Rattle.listing.proofs.once.has_both.Goals as goal

-- the height as it stands in the block
height_there : (store : List ℕ) (i k : ℕ) → k ≡ number_of (take 8 (drop (512 * i + 16) store)) → k ≡ height_in (block_at store i)
unfolding height_in
height_there store i k e = e ∙ ap number_of (part_there store i 16 8 (512 * i + 16) (omega arith) refl)

label_there : (store : List ℕ) (i : ℕ) → take (512 * i + 16 - 512 * i) (drop (512 * i) store) ≡ label_in (block_at store i)
unfolding label_in
label_there store i =
    let n : 512 * i + 16 - 512 * i ≡ 16 = omega arith in
    ap (λ (k : ℕ). take k (drop (512 * i) store)) n ∙ part_there store i 0 16 (512 * i) (omega arith) (omega arith)

pub returns-then-number_at-height : goal.returns-then-number_at-height
unfolding has_both
returns-then-number_at-height c =
    let a = c.args in
    let h = height_there a.store.now a.i _ c.number_at.ensures in
    let e : eqb (height_in (block_at a.store.now a.i)) a.height ≡ true =
    ap (λ (k : ℕ). eqb k a.height) (sym h) ∙ eq-eqb _ a.height c.if-number_at-height.true in
    rw e (c.is_same.ensures ∙ ap (λ (l : List ℕ). same l a.label.now) (label_there a.store.now a.i))

pub returns-else-number_at-height : goal.returns-else-number_at-height
unfolding has_both
returns-else-number_at-height c =
    let a = c.args in
    let h = height_there a.store.now a.i _ c.number_at.ensures in
    let other = ne_eqb c.number_at.result a.height c.if-number_at-height.false in
    let e : eqb (height_in (block_at a.store.now a.i)) a.height ≡ false = ap (λ (k : ℕ). eqb k a.height) (sym h) ∙ other in
    other ∙ sym (ap (λ (p : Bool). p && same (label_in (block_at a.store.now a.i)) a.label.now) e)
