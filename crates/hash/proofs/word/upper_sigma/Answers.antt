use Rattle.hash.proofs.Mixing.{upper_from}
use Rattle.hash.proofs.word.upper_sigma.Goals as goal

pub returns : goal.returns
returns g c =
    let r = c.requires in
    rw (c.rotate-3.ensures, c.rotate-2.ensures, c.rotate.ensures)
    (upper_from 32 g.row.I g.row.J g.row.K c.args.x r.1 r.2 r.3 c.ranges.x.fits)
