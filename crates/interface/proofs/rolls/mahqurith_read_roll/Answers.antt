use Rattle.interface.proofs.Given.{roll_taken}
use Rattle.interface.proofs.rolls.mahqurith_read_roll.Goals as goal

pub returns : goal.returns
returns c = rw (c.number_of.ensures, c.unwrap_or.ensures, c.rows_of-rows.ensures) (roll_taken _ _ c.read_roll-read.ensures)
