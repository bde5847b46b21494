use Rattle.rules.specs.Check.{entries_of}
use Rattle.handover.proofs.checking.entries_of.Goals as goal

pub returns-in-Old : goal.returns-in-Old
unfolding entries_of
returns-in-Old c = rw c.in-Old.is c.old_count.ensures

pub returns-in-New : goal.returns-in-New
unfolding entries_of
returns-in-New c = rw c.in-New.is c.new_count.ensures
