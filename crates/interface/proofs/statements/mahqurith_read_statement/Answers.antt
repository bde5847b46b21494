use Rattle.interface.proofs.Given.{statement_taken, blank_plain}
use Rattle.interface.proofs.statements.mahqurith_read_statement.Goals as goal

pub returns-in-Ok : goal.returns-in-Ok
returns-in-Ok c = rw c.from.ensures (statement_taken _ _ c.in-Ok.ensures)

pub returns-in-Err : goal.returns-in-Err
returns-in-Err c = rw (c.number.ensures, c.none.ensures, ← blank_plain) (statement_taken _ _ c.in-Err.ensures)
