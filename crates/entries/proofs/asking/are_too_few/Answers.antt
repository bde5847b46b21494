use mathlib.Core.Path.{ap₂, ◌∙◌}
use Prim.Native.Nat.{◌<◌, ◌≤◌}
use native.Mathlib.Omega.{arith}
use borrow.Author.Tests.{lt-ltb, le-ltb}
use lib.Dec.{ltb}
use Rattle.rack.specs.Racks.{rack_cut, majority}
use Rattle.rack.proofs.RackTrips.{rack_length}
use Rattle.rules.specs.Bundle.{old_count}
use Rattle.rules.specs.Activate.{rack_size}
use Rattle.entries.proofs.asking.are_too_few.Goals as goal

pub bounds-previous-0 : goal.bounds-previous-0
bounds-previous-0 c = omega (arith, rack_length c.args.previous.now c.requires.0)

pub bounds-own-0 : goal.bounds-own-0
bounds-own-0 c = omega (arith, rack_length c.args.own.now c.requires.1)

pub returns-then-old_count-from : goal.returns-then-old_count-from
unfolding rack_cut
returns-then-old_count-from c =
    let a = c.args in
    let less : old_count a.s.now < majority (rack_size a.previous.now) =
    omega (arith, c.if-old_count-from.true, c.old_count.ensures, c.majority.ensures) in
    rw (lt-ltb (old_count a.s.now) (majority (rack_size a.previous.now)) less) (lt-ltb _ _ c.if-old_count-from.true)

pub returns-else-old_count-from : goal.returns-else-old_count-from
unfolding rack_cut
returns-else-old_count-from c =
    let a = c.args in
    let many : majority (rack_size a.previous.now) ≤ old_count a.s.now =
    omega (
      arith,
      c.if-old_count-from.false,
      c.old_count.ensures,
      c.majority.ensures,
    ) in
    rw (le-ltb (old_count a.s.now) (majority (rack_size a.previous.now)) many)
    (ap₂ ltb c.new_count.ensures (c.from-else-old_count-from.ensures ∙ c.majority-else-old_count-from.ensures))
