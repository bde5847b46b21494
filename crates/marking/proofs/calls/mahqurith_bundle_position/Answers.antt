use Rattle.bundle.proofs.Listed.{then_none, then_is}
use Rattle.marking.proofs.Told.{no_position, the_position}
use Rattle.marking.proofs.calls.mahqurith_bundle_position.Goals as goal

pub returns-in-Some : goal.returns-in-Some
returns-in-Some c =
    let a = c.args in
    let p = then_is _ _ _ c.in-Some.ensures in
    the_position a.bundle.now a.list a.number _ p.0 p.1

pub returns-in-None : goal.returns-in-None
returns-in-None c =
    let a = c.args in
    rw c.number.ensures (no_position a.bundle.now a.list a.number (then_none _ _ c.in-None.ensures))
