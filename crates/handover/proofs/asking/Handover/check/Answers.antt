use mathlib.Core.Path.{◌≡◌, sym, ◌∙◌}
use native.Mathlib.Omega.{arith}
use Rattle.refusals.specs.Order.{first}
use Rattle.refusals.proofs.Answered.{number_refuses, passed_on}
use Rattle.rack.specs.Racks.{rack_cut}
use Rattle.rack.proofs.RackTrips.{rack_length}
use Rattle.rows.proofs.Tables.{fit_count}
use Rattle.rules.specs.Outcomes.{Lent}
use Rattle.rules.specs.Bundle.{bundle_fits}
use Rattle.rules.specs.Activate.{rack_size}
use Rattle.bundle.proofs.Places.{bundle_short, new_within}
use Rattle.handover.proofs.Cascades.{unready_refuses, racks_refuse, string_decides, ready_rows, racks_hold}
use Rattle.handover.proofs.asking.Handover.check.Goals as goal
use Rattle.handover.proofs.asking.Handover.check.Goals.{After-is_bundle, Start}

abbrev start : After-is_bundle → Start
start c = (goal.at.After-is_bundle c).Start

-- what is found of the string is what the rule asks
found :
    (c : After-is_bundle)
    → c.is_bundle.result ≡ bundle_fits (rack_size (start c).args.self.previous.now) (rack_size (start c).args.self.own.now) (start c).args.self.head.count (start c).args.self.bundle.now
unfolding rack_cut
found c = rw (← c.from-theirs.ensures, ← c.from-ours.ensures, ← c.from.ensures) c.is_bundle.ensures

pub returns-in_err-check_ready : goal.returns-in_err-check_ready
returns-in_err-check_ready c =
    let a = c.args in
    let k : Lent = record { head = a.self.head; table = a.self.table.now; area = a.area.now } in
    passed_on _ _ c.from_residual.ensures.1
    ∙ unready_refuses a.size k a.self.previous.now a.self.own.now a.self.bundle.now _ c.in_err-check_ready.ensures (number_refuses _)

pub returns-in_err-check_racks : goal.returns-in_err-check_racks
returns-in_err-check_racks c =
    let a = c.args in
    let k : Lent = record { head = a.self.head; table = a.self.table.now; area = a.area.now } in
    passed_on _ _ c.from_residual-in_err-check_racks.ensures.1
    ∙ racks_refuse a.size k a.self.previous.now a.self.own.now a.self.bundle.now (sym c.in_ok-check_ready.ensures) _ c.in_err-check_racks.ensures (number_refuses _)

pub bounds-self-0 : goal.bounds-self-0
bounds-self-0 c =
    let a = c.args in
    omega (arith, rack_length a.self.previous.now (racks_hold a.self.head a.self.previous.now a.self.own.now (sym c.in_ok-check_racks.ensures)).0)

pub bounds-self-0-2 : goal.bounds-self-0-2
bounds-self-0-2 c =
    let a = c.args in
    omega (arith, rack_length a.self.own.now (racks_hold a.self.head a.self.previous.now a.self.own.now (sym c.in_ok-check_racks.ensures)).1)

pub is_bundle-requires : goal.is_bundle-requires
is_bundle-requires c =
    let a = c.args in
    let k : Lent = record { head = a.self.head; table = a.self.table.now; area = a.area.now } in
    omega (arith, c.from.ensures, fit_count a.self.head.count a.self.table.now (ready_rows a.size k a.self.previous.now a.self.own.now a.self.bundle.now (sym c.in_ok-check_ready.ensures)))

pub returns-then-not-is_bundle : goal.returns-then-not-is_bundle
unfolding first
returns-then-not-is_bundle c =
    let a = c.args in
    let k : Lent = record { head = a.self.head; table = a.self.table.now; area = a.area.now } in
    sym (string_decides a.size k a.self.previous.now a.self.own.now a.self.bundle.now (sym c.in_ok-check_ready.ensures) (sym c.in_ok-check_racks.ensures)
    ∙ rw (sym (found (goal.at.returns-then-not-is_bundle c).After-is_bundle) ∙ c.if-not-is_bundle.true))

pub rolls_hold-requires : goal.rolls_hold-requires
rolls_hold-requires c =
    let a = c.args in
    let n = rack_size a.self.previous.now in
    let m = rack_size a.self.own.now in
    let fits = sym (found (goal.at.rolls_hold-requires c).After-is_bundle) ∙ c.if-not-is_bundle.false in
    (omega (arith, new_within n m a.self.head.count a.self.bundle.now fits), bundle_short n m a.self.head.count a.self.bundle.now fits)

pub returns-then-not-rolls_hold : goal.returns-then-not-rolls_hold
unfolding first
returns-then-not-rolls_hold c =
    let a = c.args in
    let k : Lent = record { head = a.self.head; table = a.self.table.now; area = a.area.now } in
    sym (string_decides a.size k a.self.previous.now a.self.own.now a.self.bundle.now (sym c.in_ok-check_ready.ensures) (sym c.in_ok-check_racks.ensures)
    ∙ rw (sym (found (goal.at.returns-then-not-rolls_hold c).After-is_bundle) ∙ c.if-not-is_bundle.false, sym c.rolls_hold.ensures ∙ c.if-not-rolls_hold.true))

pub returns : goal.returns
unfolding first
returns c =
    let a = c.args in
    let k : Lent = record { head = a.self.head; table = a.self.table.now; area = a.area.now } in
    sym (string_decides a.size k a.self.previous.now a.self.own.now a.self.bundle.now (sym c.in_ok-check_ready.ensures) (sym c.in_ok-check_racks.ensures)
    ∙ rw (sym (found (goal.at.returns c).After-is_bundle) ∙ c.if-not-is_bundle.false, sym c.rolls_hold.ensures ∙ c.if-not-rolls_hold.false))
