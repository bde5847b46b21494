use mathlib.Core.Path.{◌≡◌, ap, ◌∙◌}
use mathlib.Core.List.{List}
use Prim.Native.Nat.{ℕ}
use native.Mathlib.Omega.{arith}
use lib.ListN.{length}
use Rattle.octets.specs.Strings.{put}
use Rattle.hash.specs.Sha256.{sha256}
use Rattle.rows.specs.Digests.{appended}
use Rattle.rows.proofs.Messages.{two_put_end}
use Rattle.rows.proofs.digest.appended.Goals as goal

pub returns : goal.returns
unfolding appended
returns c =
    let a = c.args in
    let g = c.well_formed in
    let t : length a.tail ≡ 32 = omega (arith, g.0) in
    let e : length a.entry ≡ 32 = omega (arith, g.1.0) in
    c.digest.ensures ∙ ap sha256 (c.copy_at-2.ensures
    ∙ ap (λ (d : List ℕ). put d 33 a.entry) c.copy_at.ensures
    ∙ two_put_end _ 1 a.tail a.entry 33 (omega arith) (omega arith))
