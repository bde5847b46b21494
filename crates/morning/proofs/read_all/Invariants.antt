use Rattle.std.proofs.Common.{Ok, ◌*◌, ◌≤◌}
use Rattle.night.specs.Pass.{Kept}
use Rattle.morning.specs.declared.Stands.TheVariants.{More}
use Rattle.morning.specs.Reading.{GoesOn}
use Rattle.morning.proofs.read_all.Given as goal

abbrev pub invariant-loop-pieces : goal.invariant-loop-pieces
invariant-loop-pieces g l =
    Kept l.night × (l.night.totals.blocks ≤ 128 * l.pieces)
    × GoesOn l.pieces (g.R.Read.remaining l.initial.input) (g.R.Read.remaining l.input) l.initial.night l.night (Ok More)
