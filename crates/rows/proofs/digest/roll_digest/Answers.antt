use mathlib.Core.Path.{◌≡◌, ap, ◌∙◌}
use Prim.Native.Nat.{ℕ}
use native.Mathlib.Omega.{arith}
use Rattle.rows.specs.Search.{held}
use Rattle.rows.specs.Digests.{digest_of_rows, roll_string, roll_digest}
use Rattle.rows.proofs.Searches.{held_within, held_most}
use Rattle.rows.proofs.digest.roll_digest.Goals as goal

pub digest_of_rows-requires : goal.digest_of_rows-requires
digest_of_rows-requires c =
    let a = c.args in
    let e : c.held.result ≡ held a.count a.rows.now = c.held.ensures in
    omega (arith, held_within a.count a.rows.now, held_most a.count a.rows.now)

pub returns : goal.returns
unfolding digest_of_rows roll_string roll_digest
returns c =
    let a = c.args in
    c.digest_of_rows.ensures ∙ ap (λ (n : ℕ). digest_of_rows n a.rows.now) c.held.ensures
