-- What a call tells: its answer, and the head as it leaves it.
use Rattle.rules.specs.declared.Head.{Head}
use Rattle.rules.specs.declared.Answer.{Answer}

pub record Told : Type 0 where
  pub answer : Answer
  pub head : Head
