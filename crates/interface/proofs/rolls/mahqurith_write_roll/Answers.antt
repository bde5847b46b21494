use mathlib.Core.Path.{ap, ◌∙◌}
use mathlib.Core.List.{List}
use Prim.Native.Nat.{ℕ}
use Rattle.roll.specs.Roll as roll
use Rattle.refusals.specs.declared.Written.{Written as Answered}
use Rattle.interface.specs.Calls.{writing_roll}
use Rattle.interface.proofs.rolls.mahqurith_write_roll.Goals as goal

pub returns : goal.returns
unfolding roll.writing_roll writing_roll
returns c =
    let a = c.args in
    ap (λ (w : Answered). record { answer = w.number; count = w.written; area = c.write_roll.new.area }) c.from.ensures
    ∙ c.write_roll.ensures ∙ ap (λ (t : List ℕ). roll.writing_roll a.roll.count t a.area.now) c.flat.ensures
