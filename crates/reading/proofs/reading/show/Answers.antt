use mathlib.Core.Path.{◌≡◌, ap, ◌∙◌}
use Rattle.statement.specs.declared.Kind.{Kind}
use Rattle.statement.specs.Contents.{statement_fits}
use Rattle.statement.proofs.Types.{arrays}
use Rattle.rules.specs.Rows.{receipt_of}
use Rattle.rules.specs.Read.{read_kind}
use Rattle.ledgers.proofs.Given.{made_length}
use Rattle.reading.proofs.Readings.{read_fits}
use Rattle.reading.proofs.reading.show.Goals as goal
use Rattle.reading.proofs.reading.show.Goals.{After-receipt}

made : (c : After-receipt) → c.receipt.result ≡ receipt_of c.args.head (read_kind c.args.height c.args.nonce) c.args.label c.args.tail
made c = c.receipt.ensures ∙ ap (λ (kind : Kind). receipt_of c.args.head kind c.args.label c.args.tail) c.read_kind.ensures

pub give-requires : goal.give-requires
give-requires c =
    let e = made (goal.at.give-requires c).After-receipt in
    (ap statement_fits e ∙ read_fits c.args.head _ _ _ _ _ c.requires.0, rw e c.requires.1)

pub returns-clause-long : goal.returns-clause-long
returns-clause-long c =
    let made = made (goal.at.returns-clause-long c).After-receipt in
    made_length c.receipt.result _ made (arrays c.receipt.result _ c.receipt.type_inv) (read_fits c.args.head _ _ _ _ _ c.requires.0)
