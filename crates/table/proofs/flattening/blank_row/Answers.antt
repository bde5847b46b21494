use mathlib.Core.Path.{refl}
use Rattle.octets.specs.Numbers.{number_of}
use Rattle.table.specs.Flat.{row_cut}
use Rattle.table.proofs.flattening.blank_row.Goals as goal

pub returns : goal.returns
unfolding row_cut number_of
returns c = refl
