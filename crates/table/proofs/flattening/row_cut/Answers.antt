use Rattle.table.specs.Flat.{row_cut}
use Rattle.table.proofs.flattening.row_cut.Goals as goal

pub returns : goal.returns
unfolding row_cut
returns c = rw (c.array_at.ensures, c.array_at-2.ensures, c.number_at.ensures)
