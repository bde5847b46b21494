use mathlib.Core.Path.{◌≡◌, refl, sym, ap, ◌∙◌}
use mathlib.Core.List.{map}
use native.Mathlib.Omega.{arith}
use lib.ListN.{length, length-set}
use lib.Seq.{take_all}
use Rattle.rack.specs.Racks.{most}
use Rattle.interface.specs.Contents.{bytes_in, keys_of}
use Rattle.interface.proofs.Mapped.{mapped_next}
use Rattle.interface.proofs.racks.keys_of.Goals as goal

pub loop-i-init : goal.loop-i-init
loop-i-init c = (refl, refl)

pub loop-i-preserved : goal.loop-i-preserved
loop-i-preserved c =
    let l = c.loop-i in
    let n : length c.args.places ≡ most = omega (arith, c.well_formed) in
    (length-set l.keys l.i _ ∙ l.invariant.0, mapped_next bytes_in c.args.places l.keys l.i _ _ (omega arith) (omega arith) l.invariant.1 refl)

pub returns : goal.returns
unfolding keys_of
returns c =
    let l = c.loop-i in
    let n : length c.args.places ≡ most = omega (arith, c.well_formed) in
    sym (take_all l.i l.keys (omega arith)) ∙ l.invariant.1 ∙ ap (map bytes_in) (take_all l.i c.args.places (omega arith))
