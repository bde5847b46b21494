-- Demand 3: two accepted verdicts with one identity, ledger and height name the same tail, across any handovers. Assumes nothing beyond the premises that it names.
use mathlib.Core.Path.{sym, ◌∙◌}
use Rattle.safety.specs.Demand.{Demand3}
use Rattle.safety.proofs.SeenVerdict.{accepted_verdict}
use Rattle.safety.proofs.Bridge.{lawful_tale}
use Rattle.safety.proofs.Safe.{tale_safe}

pub demand_3 : Demand3
demand_3 keepers start h orderly chip apart identity label height t u a b =
    let x = accepted_verdict h identity label height t a in
    let y = accepted_verdict h identity label height u b in
    sym x.tail_is
    ∙ tale_safe start h (lawful_tale keepers start h orderly chip) apart x.word y.word x.verdict y.verdict
    (x.identity_is ∙ sym y.identity_is) (x.label_is ∙ sym y.label_is) (x.height_is ∙ sym y.height_is)
    ∙ y.tail_is
