use mathlib.Core.Path.{◌≡◌, refl, sym, ap, ◌∙◌}
use mathlib.Core.List.{map}
use native.Mathlib.Omega.{arith}
use lib.ListN.{length, length-set}
use lib.Seq.{take_all}
use Rattle.rack.specs.Racks.{most}
use Rattle.interface.specs.Contents.{key_of, places_of}
use Rattle.interface.proofs.Mapped.{mapped_next}
use Rattle.interface.proofs.racks.places_of.Goals as goal

pub loop-i-init : goal.loop-i-init
loop-i-init c = (refl, refl)

pub loop-i-preserved : goal.loop-i-preserved
loop-i-preserved c =
    let l = c.loop-i in
    let n : length c.args.keys ≡ most = omega (arith, c.well_formed) in
    (length-set l.places l.i _ ∙ l.invariant.0, mapped_next key_of c.args.keys l.places l.i _ _ (omega arith) (omega arith) l.invariant.1 refl)

pub returns : goal.returns
unfolding places_of
returns c =
    let l = c.loop-i in
    let n : length c.args.keys ≡ most = omega (arith, c.well_formed) in
    sym (take_all l.i l.places (omega arith)) ∙ l.invariant.1 ∙ ap (map key_of) (take_all l.i c.args.keys (omega arith))
