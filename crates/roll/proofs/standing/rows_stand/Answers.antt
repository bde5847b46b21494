use mathlib.Core.Path.{sym, ◌∙◌}
use Rattle.rows.proofs.Tables.{one_does_not_stand, all_do_stand}
use Rattle.roll.specs.Roll.{said_count, roll_layout}
use Rattle.roll.proofs.Rolls.{cut_table}
use Rattle.roll.proofs.Spreads.{table_long}
use Rattle.roll.proofs.standing.rows_stand.Goals as goal

pub returns-then-all_stand : goal.returns-then-all_stand
unfolding roll_layout
returns-then-all_stand c =
    let start = c in
    let s = start.args.s.now in
    c.rest_is_unused.ensures
    ∙ sym (all_do_stand (said_count s) (cut_table s) (table_long s start.requires) start.requires.few (sym c.all_stand.ensures ∙ c.if-all_stand.true))

pub returns-else-all_stand : goal.returns-else-all_stand
unfolding roll_layout
returns-else-all_stand c =
    let start = c in
    let s = start.args.s.now in
    c.if-all_stand.false ∙ sym (one_does_not_stand (said_count s) (cut_table s) (table_long s start.requires) start.requires.few (sym c.all_stand.ensures ∙ c.if-all_stand.false))
