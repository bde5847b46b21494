use mathlib.Core.Path.{refl, sym, ap, ◌∙◌}
use Rattle.store.specs.Area.{block_at, newer, newest}
use Rattle.store.specs.declared.Newest.{Newest}
use Rattle.store.proofs.Places.{newest_next}
use Rattle.store.proofs.scan.newest.Goals as goal

pub loop-i-init : goal.loop-i-init
unfolding newest
loop-i-init c = refl

pub loop-i-preserved : goal.loop-i-preserved
loop-i-preserved c =
    let a = c.args in
    let l = c.loop-i in
    c.newer_at-found.ensures ∙ ap (λ (f : Newest). newer a.label.now f (block_at a.area.now l.i)) l.invariant ∙ sym (newest_next a.area.now a.label.now l.i)
