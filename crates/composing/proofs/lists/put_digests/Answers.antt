use mathlib.Core.Path.{ap, ap₂, ◌∙◌}
use mathlib.Core.List.{List}
use Prim.Native.Nat.{ℕ, suc, ◌+◌, ◌*◌}
use native.Mathlib.Numerals.{add-one}
use native.Mathlib.Omega.{arith}
use Rattle.octets.specs.Strings.{put}
use Rattle.rows.proofs.Tables.{each_of}
use Rattle.maker.specs.Lists.{answered}
use Rattle.composing.proofs.Putting.{none_put, digests_next}
use Rattle.composing.proofs.lists.put_digests.Goals as goal

pub loop-d-init : goal.loop-d-init
loop-d-init c =
    let a = c.args in
    none_put a.store.now a.label a.height a.area.now a.at

pub digest_for-digest-requires : goal.digest_for-digest-requires
digest_for-digest-requires c =
    let a = c.args in
    let l = c.loop-d in (
      c.requires.0,
      ap (λ (k : ℕ). answered a.store.now a.label (a.height + k)) (add-one l.d)
          ∙ each_of (λ (d : ℕ). answered a.store.now a.label (a.height + suc d)) a.n l.d (omega arith)
          c.requires.1,
    )

pub loop-d-preserved : goal.loop-d-preserved
loop-d-preserved c =
    let a = c.args in
    let l = c.loop-d in
    c.copy_at.ensures
    ∙ ap₂ (λ (x y : List ℕ). put x (a.at + 32 * l.d) y) l.invariant c.digest_for-digest.ensures
    ∙ digests_next a.store.now a.label a.height a.area.now a.at l.d (omega (arith, c.requires.4))
