use mathlib.Core.Path.{sym, ap, ◌∙◌}
use Prim.Native.Nat.{◌<◌}
use native.Mathlib.Omega.{arith}
use borrow.Author.Rules.{rules}
use borrow.Author.Tests.{tests}
use Rattle.std.proofs.lemmas.Iterator.{YieldsList-from_range, serves_from_Range}
use Rattle.std.proofs.lemmas.Iterator.Search.{all_from_yields_List}
use Rattle.rows.specs.Table.{each}
use Rattle.rows.proofs.Tables.{each_listed}
use Rattle.roll.specs.Blocks.{blocks}
use Rattle.roll.specs.Roll.{said_count, roll_layout}
use Rattle.roll.proofs.Blocks.{stands_at, all_same}
use Rattle.roll.proofs.Rolls.{cut_table}
use Rattle.roll.proofs.Spreads.{table_long}
use Rattle.roll.proofs.test.are_blocks.Goals as goal

pub all-requires-clause-callable : goal.all-requires-clause-callable
all-requires-clause-callable c =
    let start = c in
    serves_from_Range (λ x q k. search rules)
    (λ x h l.
    let within : x < blocks (said_count start.args.s.now) = omega (arith, c.blocks_in.ensures) in
    search rules)

pub returns : goal.returns
unfolding roll_layout
returns c =
    let start = c in
    let s = start.args.s.now in
    let n = c.blocks_in.result in
    all_from_yields_List (stands_at (said_count s) (cut_table s) s) _ _ _ c.all.ensures.ran (YieldsList-from_range 0 n n (cc) (omega arith)) (λ x b q k. search (rules, tests))
    ∙ each_listed (stands_at (said_count s) (cut_table s) s) n
    ∙ ap (each (stands_at (said_count s) (cut_table s) s)) c.blocks_in.ensures
    ∙ sym (all_same (said_count s) (cut_table s) s start.requires.few (table_long s start.requires) start.requires.long)
