use mathlib.Core.Path.{◌∙◌}
use native.Mathlib.Omega.{arith}
use borrow.Author.Rules.{rules}
use borrow.Author.Tests.{tests}
use Rattle.std.proofs.lemmas.Iterator.{YieldsList-from_range}
use Rattle.std.proofs.lemmas.Iterator.Consumers.{YieldsList-from_filter, count_from_yields_List}
use Rattle.making.proofs.Counts.{theirs, counted}
use Rattle.making.proofs.companies.count_theirs.Goals as goal

pub returns : goal.returns
returns c =
    let a = c.args in
    count_from_yields_List _ _ c.count.ensures.ran
    (YieldsList-from_filter _ (theirs a.table.now a.first) (YieldsList-from_range 0 a.count a.count (cc) (omega arith)) c.filter.ensures.closure (λ x b q k. search (rules, tests)))
    ∙ counted a.table.now a.first a.count
