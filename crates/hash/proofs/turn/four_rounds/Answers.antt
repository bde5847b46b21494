use Rattle.std.proofs.Common.{◌≡◌, ◌+◌, ◌-◌, arith}
use Rattle.hash.specs.Sha256.{sha_256}
use Rattle.hash.specs.Turns.{reads, steps}
use Rattle.hash.proofs.Steps.{first_step, steps_then}
use Rattle.hash.proofs.turn.four_rounds.Goals as goal

pub loop-u-init : goal.loop-u-init
unfolding steps
loop-u-init c =
    let e : c.args.t - c.args.t ≡ 0 = omega arith in
    rw e

pub loop-u-preserved : goal.loop-u-preserved
loop-u-preserved c =
    let u = c.loop-u.u in
    let t = c.args.t in
    let f = reads sha_256 c.args.w.now in
    steps_then f _ _ _ t (u - t) 1 u (u + 1 - t) (omega arith) (omega arith) c.loop-u.invariant (first_step f _ _ u c.round_at-state.ensures)

pub returns : goal.returns
returns c =
    let e : c.loop-u.u - c.args.t ≡ 4 = omega arith in
    rw e at c.loop-u.invariant
