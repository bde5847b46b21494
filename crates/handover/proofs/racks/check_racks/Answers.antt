use mathlib.Core.Path.{◌≡◌, sym, ◌∙◌}
use mathlib.Core.Bool.{true}
use Rattle.refusals.specs.Order.{first}
use Rattle.octets.specs.Layouts.{holds}
use Rattle.rack.specs.Racks.{rack_layout}
use Rattle.handover.specs.Asked.{rack_tests}
use Rattle.handover.proofs.racks.check_racks.Goals as goal
use Rattle.handover.proofs.racks.check_racks.Goals.{Else-not-is_rack, then-is_rack, else-is_rack}

-- both racks hold
racks : (c : Else-not-is_rack) → (holds rack_layout c.args.previous.now ≡ true) × (holds rack_layout c.args.own.now ≡ true)
racks c =
    elim c.if-is_rack.branch [
      | then-is_rack w ↦ (sym c.is_rack.ensures ∙ w.if-is_rack.true, sym w.is_rack-then-is_rack.ensures ∙ sym w.value-is ∙ c.if-not-is_rack.false)
      | else-is_rack w ↦ absurd (cc)
    ]

pub returns-then-not-is_rack : goal.returns-then-not-is_rack
unfolding first rack_tests
returns-then-not-is_rack c =
    elim c.if-is_rack.branch [
      | then-is_rack w ↦
          rw (sym c.is_rack.ensures ∙ w.if-is_rack.true, sym w.is_rack-then-is_rack.ensures ∙ sym w.value-is ∙ c.if-not-is_rack.true)
      | else-is_rack w ↦ rw (sym c.is_rack.ensures ∙ w.if-is_rack.false)
    ]

pub returns-then-racks_differ : goal.returns-then-racks_differ
unfolding first rack_tests
returns-then-racks_differ c =
    let both = racks (goal.at.returns-then-racks_differ c).Else-not-is_rack in
    rw (both.0, both.1, sym c.racks_differ.ensures ∙ c.if-racks_differ.true)

pub returns : goal.returns
unfolding first rack_tests
returns c =
    let both = racks (goal.at.returns c).Else-not-is_rack in rw (both.0, both.1, sym c.racks_differ.ensures ∙ c.if-racks_differ.false)
