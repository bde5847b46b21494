use native.Mathlib.Omega.{arith}
use Rattle.octets.proofs.Compared.{same_pointwise}
use Rattle.cabinet.specs.Block.{digest_in, text_in, digest_right}
use Rattle.cabinet.proofs.block.is_digested.Goals as goal

pub returns : goal.returns
unfolding digest_right text_in digest_in
returns c = grind (arith, same_pointwise)
