use mathlib.Core.Path.{◌≡◌, ap, ◌∙◌}
use mathlib.Core.Bool.{true}
use lib.ListN.{length}
use Rattle.statement.specs.declared.Statement.{Statement}
use Rattle.statement.specs.Kinds.{handover_size, size}
use Rattle.statement.specs.Contents.{statement_written, statement_fits}
use Rattle.statement.proofs.Records.{fits_kind, written_length}
use Rattle.statement.proofs.Types.{arrays}
use Rattle.rules.specs.Outcomes.{given}
use Rattle.rules.specs.Initialise.{initialise_statement, entered}
use Rattle.entering.proofs.Enters.{spoken_fits}
use Rattle.entering.proofs.entry.enter.Goals as goal

pub give-requires : goal.give-requires
give-requires c =
    let entry = c in
    let e = c.spoken.ensures in
    (ap statement_fits e ∙ spoken_fits entry.args.head entry.args.table.now, rw e entry.requires)

pub returns : goal.returns
unfolding given initialise_statement entered
returns c =
    let said = c in
    let v = said.spoken.result in
    let a = said.args in
    let fits : statement_fits v ≡ true = ap statement_fits said.spoken.ensures ∙ spoken_fits a.head a.table.now in
    let kind : size v.kind ≡ handover_size = ap (λ (w : Statement). size w.kind) said.spoken.ensures in
    let long : length (statement_written v) ≡ handover_size = written_length v (arrays v _ said.spoken.type_inv) (fits_kind v fits) ∙ kind in
    rw (← said.spoken.ensures, long, c.give.ensures)
