use Rattle.std.proofs.Common.{rules}
use Rattle.bundle.proofs.Deciding.{tested}
use Rattle.bundle.proofs.fitting.is_bundle.Goals as goal

pub returns-then-new_entries_fit : goal.returns-then-new_entries_fit
returns-then-new_entries_fit c = let a = c.args in rw (tested a.n a.m a.rows a.s.now) (search rules)

pub returns-else-new_entries_fit : goal.returns-else-new_entries_fit
returns-else-new_entries_fit c = let a = c.args in rw (tested a.n a.m a.rows a.s.now) (search rules)
