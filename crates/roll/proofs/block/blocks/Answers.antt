use mathlib.Core.Path.{◌≡◌, refl}
use mathlib.Core.Bool.{Bool, true, false}
use native.Mathlib.Omega.{arith}
use borrow.Author.Tests.{eqb-true, eqb-false}
use lib.Dec.{eqb}
use Rattle.roll.specs.Blocks.{blocks}
use Rattle.roll.proofs.Blocks.{blocks_none, blocks_some}
use Rattle.roll.proofs.block.blocks.Goals as goal

pub returns : goal.returns
returns c = go (eqb c.args.count 0) refl
  where
    go : (t : Bool) → eqb c.args.count 0 ≡ t → c.max.result ≡ blocks c.args.count
    go true e = let z : c.args.count ≡ 0 = eqb-true c.args.count 0 e in omega (arith, blocks_none c.args.count z, c.max.ensures)
    go false e =
        let n : (c.args.count ≡ 0 → ⊥) = eqb-false c.args.count 0 e in
        omega (arith, blocks_some c.args.count n, c.max.ensures)
