-- Demand 3 of the exported calls: two accepted verdicts with one identity, ledger and height name the same tail, across any handovers. Assumes nothing beyond
-- the premises that it names.
use mathlib.Core.Path.{◌∙◌}
use Rattle.safety.proofs.Theorem as rules
use Rattle.exported.specs.Demand.{Demand3}
use Rattle.exported.proofs.Standing.{flat_start}
use Rattle.exported.proofs.Premises.{orderly_is, apart_is, chip_is}

pub demand_3 : Demand3
demand_3 keepers start h rows bytes order chip apart =
    rules.demand_3 keepers (flat_start start) h (orderly_is start rows h bytes ∙ order) (chip_is start rows keepers bytes chip)
    (apart_is start rows h bytes apart)
