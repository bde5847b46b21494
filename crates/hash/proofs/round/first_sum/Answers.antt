use Rattle.hash.specs.Words.{plus}
use Rattle.hash.specs.Rounds.{T₁}
use Rattle.hash.specs.Sha256.{sha_256}
use Rattle.hash.proofs.round.first_sum.Goals as goal

pub returns : goal.returns
unfolding plus T₁ sha_256
returns c = rw (c.ch.ensures, c.upper_sigma.ensures)
