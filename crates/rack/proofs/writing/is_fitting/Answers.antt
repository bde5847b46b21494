use borrow.Author.Rules.{rules}
use native.Mathlib.Omega.{arith}
use mathlib.Core.Path.{◌≡◌, ap, ◌∙◌}
use mathlib.Core.List.{flatten}
use Prim.Native.Nat.{◌-◌}
use lib.ListN.{take, drop, length-drop}
use lib.Seq.{take_all}
use Rattle.octets.specs.Strings.{all_zero}
use Rattle.rack.proofs.Shapes.{shaped}
use Rattle.rack.specs.Racks.{rack_fits}
use Rattle.rack.proofs.Walks.{flat_is}
use Rattle.rack.proofs.writing.is_fitting.Goals as goal

pub returns-then-is_rising : goal.returns-then-is_rising
unfolding rack_fits
returns-then-is_rising c =
    let k = drop c.args.count c.args.keys in
    let whole : take (15 - c.args.count) k ≡ k =
    take_all (15 - c.args.count) k (omega (arith, length-drop c.args.count c.args.keys, (shaped 0 c.args.keys _ c.well_formed.0).places)) in
    let z : c.is_zero.result ≡ all_zero (flatten k) =
    c.is_zero.ensures ∙ ap all_zero (c.as_flattened.ensures.value ∙ flat_is _ ∙ ap flatten whole) in
    search rules
