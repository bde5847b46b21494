use Rattle.hash.specs.Words.{plus}
use Rattle.hash.specs.Rounds.{T₂}
use Rattle.hash.specs.Sha256.{sha_256}
use Rattle.hash.proofs.round.second_sum.Goals as goal

pub returns : goal.returns
unfolding plus T₂ sha_256
returns c = rw (c.maj.ensures, c.upper_sigma.ensures)
