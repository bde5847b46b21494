use mathlib.Core.Path.{◌≡◌, ap, ◌∙◌}
use mathlib.Core.List.{List, ◌∷◌}
use Prim.Native.Nat.{ℕ, ◌+◌}
use native.Mathlib.Omega.{arith}
use lib.ListN.{length, take, replicate, length-take}
use Rattle.octets.proofs.Fronts.{take_behind, take_least}
use Rattle.hash.specs.Sha256.{sha256}
use Rattle.rack.specs.Racks.{most, rack_bytes, rack_mark, rack_digest}
use Rattle.rack.proofs.digest.rack_digest.Goals as goal

pub returns : goal.returns
unfolding rack_digest
returns c =
    let s = c.args.s.now in
    let n = c.min-n in
    let copied : length (take n.result s) ≡ n.result = simp length-take (omega arith) in
    let sent = ap (take (1 + n.result)) c.copy_at.ensures
    ∙ take_behind (replicate (1 + rack_bytes most) 0) rack_mark (take n.result s) n.result copied (omega arith) in
    c.digest.ensures ∙ ap sha256 (sent ∙ ap (λ (t : List ℕ). rack_mark ∷ t) (take_least n.result (rack_bytes most) s n.ensures))
