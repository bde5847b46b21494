use mathlib.Core.Path.{ap, ◌∙◌}
use Rattle.refusals.specs.{statement_not_asked}
use Rattle.refusals.specs.declared.Written.{Written as Answered}
use Rattle.octets.specs.Layouts.{writing}
use Rattle.statement.specs.declared.Statement.{Statement}
use Rattle.statement.specs.Layout.{statement_layout}
use Rattle.interface.specs.Calls.{writing_statement}
use Rattle.interface.proofs.statements.mahqurith_write_statement.Goals as goal

pub returns : goal.returns
unfolding writing_statement
returns c =
    let a = c.args in
    ap (λ (w : Answered). record { answer = w.number; count = w.written; area = c.write_statement.new.area }) c.from-2.ensures
    ∙ c.write_statement.ensures ∙ ap (λ (v : Statement). writing statement_layout statement_not_asked v a.area.now) c.from.ensures
