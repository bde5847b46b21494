use borrow.Author.Rules.{rules}
use borrow.Author.Tests.{tests}
use mathlib.Core.Path.{◌∙◌}
use Prim.Native.Nat.{ℕ}
use native.Mathlib.Omega.{arith}
use Rattle.std.proofs.lemmas.Iterator.{YieldsList-from_range}
use Rattle.std.proofs.lemmas.Iterator.Search.{any_from_yields_List}
use Rattle.cabinet.specs.Block.{damaged}
use Rattle.store.specs.Area.{block_at, first_damaged}
use Rattle.store.proofs.Places.{any_among}
use Rattle.store.proofs.scan.has_damaged.Goals as goal

pub returns : goal.returns
unfolding first_damaged
returns c =
    let a = c.args in
    any_from_yields_List (λ i. damaged (block_at a.area.now i)) _ _ _ c.any.ensures.ran (YieldsList-from_range 0 a.n a.n (cc) (omega arith)) (λ x b q k. search (rules, tests))
    ∙ any_among (λ (i : ℕ). damaged (block_at a.area.now i)) a.n
