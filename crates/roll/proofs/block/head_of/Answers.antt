use mathlib.Core.Path.{ap}
use mathlib.Core.List.{[], ◌∷◌}
use Prim.Native.Nat.{ℕ}
use native.Mathlib.Omega.{arith}
use Rattle.roll.specs.Blocks.{head, layout_byte}
use Rattle.roll.proofs.Blocks.{blocks_within}
use Rattle.roll.proofs.block.head_of.Goals as goal

pub overflow_cast-result : goal.overflow_cast-result
overflow_cast-result c = omega (arith, blocks_within c.args.count c.requires.0)

pub overflow_cast-result-2 : goal.overflow_cast-result-2
overflow_cast-result-2 c = omega (arith, c.blocks-2.ensures, blocks_within c.args.count c.requires.0)

pub returns : goal.returns
unfolding head
returns c = let a = c.args in ap (λ (n : ℕ). a.b ∷ n ∷ a.count ∷ layout_byte ∷ []) c.blocks-2.ensures
