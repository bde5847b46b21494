use mathlib.Core.Path.{◌≡◌, refl, sym, ◌∙◌}
use mathlib.Core.Bool.{true, false}
use native.Mathlib.Omega.{arith}
use borrow.Author.Tests.{eqb-false}
use Rattle.refusals.specs.Order.{first}
use Rattle.octets.specs.Layouts.{holds}
use Rattle.rack.specs.Racks.{rack_layout, rack_cut}
use Rattle.rack.proofs.RackTrips.{rack_length}
use Rattle.store.specs.Area.{area_right}
use Rattle.rows.specs.Table.{each}
use Rattle.rules.specs.Bundle.{old_count, bundle_fits}
use Rattle.rules.specs.Activate.{rack_size}
use Rattle.entries.specs.Asked.{roll_held}
use Rattle.composing.proofs.Cascade.{string_refuses, attended_decide, entries_short, entries_within, lists_begin}
use Rattle.composing.proofs.call.check_entries.Goals as goal
use Rattle.composing.proofs.call.check_entries.Goals.{Else-not-is_area, Else-not-is_bundle, Else-not-is_rack, Else-not-is_rack-2, Else-not-rolls_hold}

-- the store's size, and both racks
right : (c : Else-not-is_area) → area_right c.args.store.now ≡ true
right c = sym c.is_area.ensures ∙ c.if-not-is_area.false

theirs : (c : Else-not-is_rack) → holds rack_layout c.args.previous.now ≡ true
theirs c = sym c.is_rack.ensures ∙ c.if-not-is_rack.false

ours : (c : Else-not-is_rack-2) → holds rack_layout c.args.own.now ≡ true
ours c = sym c.is_rack-2.ensures ∙ c.if-not-is_rack-2.false

-- the entries are a bundle's
fits : (c : Else-not-is_bundle)
    → bundle_fits
    (rack_size c.args.previous.now)
    (rack_size c.args.own.now) 0
    c.args.e.now ≡ true
unfolding rack_cut
fits c = sym c.is_bundle.ensures ∙ c.if-not-is_bundle.false

rolled : (c : Else-not-rolls_hold)
    → each (roll_held
    c.args.e.now)
    (old_count
    c.args.e.now) ≡ true
rolled c = sym c.rolls_hold.ensures ∙ c.if-not-rolls_hold.false

pub returns-then-not-is_area : goal.returns-then-not-is_area
unfolding first
returns-then-not-is_area c =
    let a = c.args in
    let no : area_right a.store.now ≡ false = sym c.is_area.ensures ∙ c.if-not-is_area.true in
    string_refuses a.previous.now a.own.now a.e.now a.store.now 2 (rw no) (eqb-false 2 0 refl)

pub returns-then-not-is_rack : goal.returns-then-not-is_rack
unfolding first
returns-then-not-is_rack c =
    let a = c.args in
    let no : holds rack_layout a.previous.now ≡ false = sym c.is_rack.ensures ∙ c.if-not-is_rack.true in
    string_refuses a.previous.now a.own.now a.e.now a.store.now 6 (rw (right (goal.at.returns-then-not-is_rack c).Else-not-is_area, no)) (eqb-false 6 0 refl)

pub returns-then-not-is_rack-2 : goal.returns-then-not-is_rack-2
unfolding first
returns-then-not-is_rack-2 c =
    let a = c.args in
    let no : holds rack_layout a.own.now ≡ false = sym c.is_rack-2.ensures ∙ c.if-not-is_rack-2.true in
    string_refuses a.previous.now a.own.now a.e.now a.store.now 6
    (rw (right (goal.at.returns-then-not-is_rack-2 c).Else-not-is_area, theirs (goal.at.returns-then-not-is_rack-2 c).Else-not-is_rack, no)) (eqb-false 6 0 refl)

pub bounds-previous-0 : goal.bounds-previous-0
bounds-previous-0 c =
    omega (
      arith,
      rack_length c.args.previous.now
          (theirs (goal.at.bounds-previous-0 c).Else-not-is_rack),
    )

pub bounds-own-0 : goal.bounds-own-0
bounds-own-0 c =
    omega (
      arith,
      rack_length c.args.own.now
          (ours (goal.at.bounds-own-0 c).Else-not-is_rack-2),
    )

pub returns-then-not-is_bundle : goal.returns-then-not-is_bundle
unfolding first rack_cut
returns-then-not-is_bundle c =
    let a = c.args in
    let no : bundle_fits (rack_size a.previous.now) (rack_size a.own.now) 0 a.e.now ≡ false = sym c.is_bundle.ensures
    ∙ c.if-not-is_bundle.true in
    string_refuses a.previous.now a.own.now a.e.now a.store.now 22
    (rw (
      right (goal.at.returns-then-not-is_bundle c).Else-not-is_area,
      theirs (goal.at.returns-then-not-is_bundle c).Else-not-is_rack,
      ours (goal.at.returns-then-not-is_bundle c).Else-not-is_rack-2,
      no,
    )) (eqb-false 22 0 refl)

pub rolls_hold-requires : goal.rolls_hold-requires
rolls_hold-requires c =
    let a = c.args in (
      entries_within a.previous.now a.own.now a.e.now a.store.now (fits c),
      entries_short a.previous.now a.own.now a.e.now a.store.now (fits c),
    )

pub returns-then-not-rolls_hold : goal.returns-then-not-rolls_hold
unfolding first
returns-then-not-rolls_hold c =
    let a = c.args in
    let no : each (roll_held a.e.now) (old_count a.e.now) ≡ false = sym c.rolls_hold.ensures ∙ c.if-not-rolls_hold.true in
    string_refuses a.previous.now a.own.now a.e.now a.store.now 15
    (rw (
      right (goal.at.returns-then-not-rolls_hold c).Else-not-is_area,
      theirs (goal.at.returns-then-not-rolls_hold c).Else-not-is_rack,
      ours (goal.at.returns-then-not-rolls_hold c).Else-not-is_rack-2,
      fits (goal.at.returns-then-not-rolls_hold c).Else-not-is_bundle,
      no,
    )) (eqb-false 15 0 refl)

pub check_attended-requires : goal.check_attended-requires
check_attended-requires c =
    let a = c.args in (
      theirs (goal.at.check_attended-requires c).Else-not-is_rack,
      ours (goal.at.check_attended-requires c).Else-not-is_rack-2,
      lists_begin a.previous.now a.own.now a.e.now a.store.now (fits (goal.at.check_attended-requires c).Else-not-is_bundle),
      entries_short a.previous.now a.own.now a.e.now a.store.now (fits (goal.at.check_attended-requires c).Else-not-is_bundle),
    )

pub returns : goal.returns
unfolding first
returns c =
    let a = c.args in
    c.check_attended.ensures
    ∙ sym (attended_decide a.previous.now a.own.now a.e.now a.store.now
    (rw (
      right (goal.at.returns c).Else-not-is_area,
      theirs (goal.at.returns c).Else-not-is_rack,
      ours (goal.at.returns c).Else-not-is_rack-2,
      fits (goal.at.returns c).Else-not-is_bundle,
      rolled (goal.at.returns c).Else-not-rolls_hold,
    )))
