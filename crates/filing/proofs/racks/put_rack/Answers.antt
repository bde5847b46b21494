use mathlib.Core.Path.{◌≡◌, sym, ap₂, ◌∙◌}
use mathlib.Core.Bool.{Bool, true}
use mathlib.Core.List.{List}
use Prim.Native.Nat.{ℕ}
use native.Mathlib.Omega.{arith}
use Rattle.octets.specs.Layouts.{holds}
use Rattle.rack.specs.Racks.{rack_layout}
use Rattle.rack.proofs.RackTrips.{rack_few, rack_length}
use borrow.Author.Tests.{leb-false}
use lib.ListN.{length}
use Rattle.checks.specs.Check.{block_bytes}
use Rattle.filing.specs.Filed.{filed, rack_body, rack_filed}
use Rattle.filing.proofs.Filing.{filed-broken, filed_short}
use Rattle.filing.proofs.racks.put_rack.Goals as goal

pub returns-then-not-is_rack : goal.returns-then-not-is_rack
unfolding rack_filed
returns-then-not-is_rack c =
    filed-broken (holds rack_layout c.args.rack.now) 6 (rack_body c.args.rack.now) c.args.area.now (sym c.is_rack.ensures ∙ c.if-not-is_rack.true)

pub rack_body-requires : goal.rack_body-requires
rack_body-requires c =
    let h : holds rack_layout c.args.rack.now ≡ true = sym c.is_rack.ensures ∙ c.if-not-is_rack.false in
    omega (arith, rack_few _ h, rack_length _ h)

pub returns-then-not-has_room : goal.returns-then-not-has_room
unfolding rack_filed
returns-then-not-has_room c =
    filed_short (holds rack_layout c.args.rack.now) 6 (rack_body c.args.rack.now) c.args.area.now (sym c.is_rack.ensures ∙ c.if-not-is_rack.false)
    (leb-false block_bytes (length c.args.area.now) (sym c.has_room.ensures ∙ c.if-not-has_room.true))

pub returns : goal.returns
unfolding rack_filed
returns c =
    let h : holds rack_layout c.args.rack.now ≡ true = sym c.is_rack.ensures ∙ c.if-not-is_rack.false in
    c.write_block.ensures 6 ∙ ap₂ (λ (f : Bool) (b : List ℕ). filed f 6 b c.args.area.now) (sym h) c.rack_body.ensures
