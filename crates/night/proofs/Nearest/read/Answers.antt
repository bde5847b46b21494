use mathlib.Core.Path.{◌≡◌, ap, ap₂, ◌∙◌}
use mathlib.Core.List.{List}
use Prim.Native.Nat.{ℕ, ◌+◌, ◌-◌}
use native.Mathlib.Omega.{arith}
use lib.ListN.{get_or, take, drop, length-take}
use lib.Seq.{take_all}
use Rattle.rack.specs.Racks.{most, rack_bytes, rack_digest}
use Rattle.night.specs.Pass.{rack_read}
use Rattle.night.proofs.Nearest.read.Goals as goal

pub returns : goal.returns
unfolding rack_read
returns c =
    let b = c.args.b.now in
    let size = rack_bytes (get_or b 1 0) in
    let e : 1 + size - 1 ≡ size = omega arith in
    let whole : take (rack_bytes most) (take size (drop 1 b)) ≡ take size (drop 1 b) =
    take_all (rack_bytes most) (take size (drop 1 b)) (omega (arith, length-take size (drop 1 b), c.requires)) in
    rw c.from.ensures
    (ap₂ (λ (r d : List ℕ). record { rack = r; size = size; digest = d }) c.array_at-rack.ensures
    (rw (c.from.ensures, e) at c.rack_digest-digest.ensures ∙ ap rack_digest whole))
