use mathlib.Core.Path.{ap, ◌∙◌}
use mathlib.Core.List.{List, []}
use Prim.Native.Nat.{ℕ, ◌/◌}
use native.Mathlib.Omega.{arith}
use lib.ListN.{length, get_or}
use Rattle.store.proofs.Cut.{block_in}
use Rattle.store.proofs.standing.block_at.Goals as goal

pub returns : goal.returns
returns c =
    let area = c.args.area.now in
    ap (λ (l : List (List ℕ)). get_or l c.args.i []) c.as_chunks.ensures.front ∙ block_in (length area / 512) area c.args.i (omega arith)
