-- An area cut into blocks. Assumes nothing.
use mathlib.Core.Path.{◌≡◌, refl, ap, ◌∙◌}
use mathlib.Core.List.{List, []}
use Prim.Native.Nat.{ℕ, zero, suc, ◌+◌, ◌*◌, ◌<◌}
use native.Mathlib.Omega.{arith}
use lib.ListN.{get_or, take, drop}
use lib.Seq.{drop-drop}
use Rattle.std.specs.Simd.{first_chunks}
use Rattle.checks.specs.Check.{block_bytes}
use Rattle.store.specs.Area.{block_at}

pub block_in : (k : ℕ) (area : List ℕ) (i : ℕ) → i < k → get_or (first_chunks block_bytes k area) i [] ≡ block_at area i
unfolding block_at
block_in zero area i h = absurd (omega arith)
block_in (suc k) area zero h = refl
block_in (suc k) area (suc i) h =
    let n : block_bytes + block_bytes * i ≡ block_bytes * suc i = omega arith in
    block_in k (drop block_bytes area) i (omega arith)
    ∙ ap (take block_bytes) (drop-drop (block_bytes * i) block_bytes area ∙ ap (λ (m : ℕ). drop m area) n)
