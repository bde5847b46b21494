use mathlib.Core.Path.{◌∙◌}
use Rattle.rows.specs.Row.{label_of}
use Rattle.rows.specs.Table.{rises}
use Rattle.rows.proofs.Tables.{rises_after}
use Rattle.rows.proofs.table.rises.Goals as goal

pub returns-then-i-eq0 : goal.returns-then-i-eq0
unfolding rises
returns-then-i-eq0 c = rw c.if-i-eq0.true

pub returns-else-i-eq0 : goal.returns-else-i-eq0
unfolding label_of
returns-else-i-eq0 c =
    let a = c.args in
    c.is_label_before.ensures ∙ rises_after a.rows.now a.i c.if-i-eq0.false
