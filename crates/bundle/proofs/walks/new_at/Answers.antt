use mathlib.Core.Path.{ap, ◌∙◌}
use Rattle.rules.specs.Bundle.{old_at, new_at}
use Rattle.bundle.proofs.Places.{new_some}
use native.Mathlib.Omega.{arith}
use Rattle.bundle.proofs.walks.new_at.Goals as goal

pub old_count-count-requires : goal.old_count-count-requires
old_count-count-requires c = omega (arith, new_some c.args.s.now)

pub old_at-requires : goal.old_at-requires
unfolding new_at
old_at-requires c =
    let s = c.args.s.now in
    let e = ap (old_at s) c.old_count-count.ensures in
    (omega (arith, e, c.requires.0), c.requires.1)

pub returns : goal.returns
unfolding new_at
returns c = c.old_at.ensures ∙ ap (old_at c.args.s.now) c.old_count-count.ensures
