use Rattle.std.proofs.Common.{◌≡◌, ◌+◌, ◌-◌, ◌*◌, arith, rules}
use Rattle.hash.specs.Sha256.{sha_256}
use Rattle.hash.specs.Turns.{reads, steps}
use Rattle.hash.proofs.Steps.{steps_then}
use Rattle.hash.proofs.turn.last_rounds.Goals as goal

pub loop-i-init : goal.loop-i-init
unfolding steps
loop-i-init c = search rules

pub loop-i-preserved : goal.loop-i-preserved
loop-i-preserved c =
    let t = 4 * c.loop-i.i in
    steps_then (reads sha_256 _) _ _ _ 48 (t - 48) 4 t (4 * (c.loop-i.i + 1) - 48) (omega arith) (omega arith) c.loop-i.invariant c.four_rounds-state.ensures

pub returns : goal.returns
returns c =
    let e : c.loop-i.i ≡ 16 = omega arith in
    rw e at c.loop-i.invariant
