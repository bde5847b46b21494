use mathlib.Core.Path.{◌≡◌, ap, ◌∙◌}
use Prim.Native.Nat.{ℕ, ◌+◌, ◌*◌}
use native.Mathlib.Omega.{arith}
use lib.ListN.{length, take, length-take}
use Rattle.hash.specs.Sha256.{sha256}
use Rattle.rows.specs.Digests.{digest_of_rows}
use Rattle.rows.specs.Sizes.{row_bytes}
use Rattle.rows.proofs.Messages.{front_put}
use Rattle.rows.proofs.digest.digest_of_rows.Goals as goal

pub slice_bounds-copy_at-end-2 : goal.slice_bounds-copy_at-end-2
slice_bounds-copy_at-end-2 c = simp length-take (omega arith)

pub copy_at-requires : goal.copy_at-requires
copy_at-requires c = simp length-take (omega arith)

pub slice_bounds-digest-end : goal.slice_bounds-digest-end
slice_bounds-digest-end c = simp length-take (omega (arith, c.copy_at.auto.dst))

pub digest-requires : goal.digest-requires
digest-requires c = simp length-take (omega (arith, c.copy_at.auto.dst))

pub returns : goal.returns
unfolding digest_of_rows
returns c =
    let a = c.args in
    let size : row_bytes * a.n ≡ length (take (row_bytes * a.n) a.rows.now) = simp length-take (omega arith) in
    c.digest.ensures ∙ ap sha256 (ap (take (2 + row_bytes * a.n)) c.copy_at.ensures
    ∙ front_put _ (take (row_bytes * a.n) a.rows.now) 2 (2 + row_bytes * a.n) (ap (λ (k : ℕ). 2 + k) size) (omega arith))
