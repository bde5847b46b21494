use Rattle.interface.proofs.Given.{rack_taken}
use Rattle.interface.proofs.racks.mahqurith_read_rack.Goals as goal

pub returns : goal.returns
returns c = rw (c.number_of.ensures, c.unwrap_or.ensures, c.places_of-keys.ensures) (rack_taken _ _ c.read_rack-read.ensures)
