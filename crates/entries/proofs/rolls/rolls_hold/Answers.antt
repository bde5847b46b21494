use mathlib.Core.Path.{◌∙◌}
use borrow.Author.Rules.{rules}
use borrow.Author.Tests.{tests}
use Rattle.std.proofs.lemmas.Iterator.Consumers.{YieldsList-from_first}
use Rattle.std.proofs.lemmas.Iterator.Search.{all_from_yields_List}
use Rattle.octets.specs.Layouts.{holds}
use Rattle.roll.specs.Roll.{roll_layout}
use Rattle.bundle.specs.Rolls.{all_rolls, rolls_left}
use Rattle.bundle.proofs.RollsLeft.{all_tested}
use Rattle.entries.proofs.rolls.rolls_hold.Goals as goal

pub returns : goal.returns
returns c =
    let s = c.args.s.now in
    all_from_yields_List (holds roll_layout) c.all.new.self _ _ c.all.ensures.ran (YieldsList-from_first (λ x. x.now) rolls_left (all_rolls s) c.of.ensures) (λ x b q k. search (rules, tests))
    ∙ all_tested (holds roll_layout) s
