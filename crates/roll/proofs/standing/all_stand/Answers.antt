use mathlib.Core.Path.{◌∙◌, ap}
use native.Mathlib.Omega.{arith}
use borrow.Author.Rules.{rules}
use borrow.Author.Tests.{tests}
use Prim.Native.Nat.{◌*◌, ◌<◌}
use Rattle.std.proofs.lemmas.Iterator.{YieldsList-from_range, serves_from_Range}
use Rattle.std.proofs.lemmas.Iterator.Search.{all_from_yields_List}
use Rattle.rows.specs.Table.{each, stands}
use Rattle.rows.proofs.Tables.{each_listed}
use Rattle.roll.specs.Blocks.{places, blocks}
use Rattle.roll.specs.Roll.{said_count, roll_layout}
use Rattle.roll.proofs.Spreads.{has_place}
use Rattle.roll.proofs.standing.all_stand.Goals as goal

pub all-requires-clause-callable : goal.all-requires-clause-callable
unfolding roll_layout
all-requires-clause-callable c =
    let start = c in
    let s = start.args.s.now in
    serves_from_Range (λ x q k. search rules)
    (λ x h l.
    let within : x < places * blocks (said_count s) = has_place s start.requires x (omega (arith, c.count_in.ensures)) in
    search rules)

pub returns : goal.returns
returns c =
    let s = c.args.s.now in
    let n = c.count_in.result in
    all_from_yields_List (stands (roll_layout.cut s).rows) _ _ _ c.all.ensures.ran (YieldsList-from_range 0 n n (cc) (omega arith)) (λ x b q k. search (rules, tests))
    ∙ each_listed (stands (roll_layout.cut s).rows) n
    ∙ ap (each (stands (roll_layout.cut s).rows)) c.count_in.ensures
