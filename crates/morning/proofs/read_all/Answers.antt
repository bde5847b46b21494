use Rattle.std.proofs.Common.{arith, rules}
use Rattle.morning.specs.declared.Stands.TheVariants.{More, All}
use Rattle.morning.proofs.Pieces.{goes_on_by, goes_on_none}
use Rattle.morning.proofs.read_all.Goals as goal
use Rattle.morning.proofs.read_all.Goals.{in-Ok-All, in-Err}

pub loop-pieces-init : goal.loop-pieces-init
loop-pieces-init g c = (c.requires.0, omega (arith, c.requires.1), goes_on_none (g.R.Read.remaining c.args.input.now) c.args.night.now)

pub loop-pieces-preserved : goal.loop-pieces-preserved
loop-pieces-preserved g c =
    let v = c.loop-pieces.invariant in
    let e = c.read_piece-stands.ensures in
    (e.kept.0, omega (arith, e.kept.1, v.1), goes_on_by _ _ _ _ _ _ _ _ _ More v.2 e.goes_on c.in-Ok-More.is (search rules))

pub returns-in-loop-pieces-clause-all : goal.returns-in-loop-pieces-clause-all
returns-in-loop-pieces-clause-all g c =
    let v = c.loop-pieces.invariant in
    let e = c.read_piece-stands.ensures in
    elim c.match-stands.branch [
      | in-Ok-All w ↦ rw w.ended-is (goes_on_by _ _ _ _ _ _ _ _ _ All v.2 e.goes_on w.in-Ok-All.is (search rules))
      | in-Err w ↦ rw w.ended-is tt
    ]
