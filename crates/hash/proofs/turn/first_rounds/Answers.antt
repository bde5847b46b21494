use Rattle.std.proofs.Common.{◌≡◌, ◌∙◌, ◌+◌, ◌*◌, zero-add, arith, rules}
use Rattle.hash.specs.Sha256.{sha_256}
use Rattle.hash.specs.Turns.{turn, steps}
use Rattle.hash.proofs.Steps.{steps_then}
use Rattle.hash.proofs.turn.first_rounds.Goals as goal

pub loop-i-init : goal.loop-i-init
unfolding steps
loop-i-init c = search rules

pub loop-i-preserved : goal.loop-i-preserved
loop-i-preserved c =
    let t = 16 * c.loop-i.i in
    let f = c.sixteen_turns-state in (
      f.auto.w ∙ c.loop-i.invariant.0,
      steps_then (turn sha_256) _ _ _ 0 t 16 t (16 * (c.loop-i.i + 1)) (zero-add t) (omega arith) c.loop-i.invariant.1 f.ensures,
    )

pub returns : goal.returns
returns c =
    let e : c.loop-i.i ≡ 3 = omega arith in
    rw e at c.loop-i.invariant.1
