use Rattle.hash.specs.Words.{shr}
use Rattle.hash.proofs.Mixing.{lower_from}
use Rattle.hash.proofs.word.lower_sigma.Goals as goal

pub returns : goal.returns
unfolding shr
returns g c =
    let r = c.requires in
    rw (c.rotate-2.ensures, c.rotate.ensures) (lower_from 32 g.row.I g.row.J g.row.K c.args.x r.1 r.2 c.ranges.x.fits)
