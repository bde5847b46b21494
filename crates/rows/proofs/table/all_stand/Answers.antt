use mathlib.Core.Path.{◌∙◌}
use native.Mathlib.Omega.{arith}
use borrow.Author.Rules.{rules}
use borrow.Author.Tests.{tests}
use Rattle.std.proofs.lemmas.Iterator.{YieldsList-from_range}
use Rattle.std.proofs.lemmas.Iterator.Search.{all_from_yields_List}
use Rattle.rows.specs.Table.{stands}
use Rattle.rows.proofs.Tables.{each_listed}
use Rattle.rows.proofs.table.all_stand.Goals as goal

pub returns : goal.returns
returns c =
    let a = c.args in
    all_from_yields_List (stands a.rows.now) _ _ _ c.all.ensures.ran (YieldsList-from_range 0 a.count a.count (cc) (omega arith))
    (λ x b q k. search (rules, tests))
    ∙ each_listed (stands a.rows.now) a.count
