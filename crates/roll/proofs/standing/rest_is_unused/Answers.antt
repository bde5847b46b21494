use mathlib.Core.Path.{ap₂, ◌∙◌}
use Prim.Native.Nat.{ℕ, ◌*◌, ◌-◌, ◌<◌}
use native.Mathlib.Omega.{arith}
use borrow.Author.Rules.{rules}
use borrow.Author.Tests.{tests}
use Rattle.std.specs.List.{list_all, range_with_len}
use Rattle.std.proofs.lemmas.Iterator.{YieldsList-from_range, serves_from_Range}
use Rattle.std.proofs.lemmas.Iterator.Search.{all_from_yields_List}
use Rattle.roll.specs.Blocks.{places, blocks}
use Rattle.roll.specs.Roll.{said_count, roll_layout}
use Rattle.roll.proofs.Blocks.{blocks_hold, blocks_within}
use Rattle.roll.proofs.Spreads.{place_unused, rest_unused}
use Rattle.roll.proofs.standing.rest_is_unused.Goals as goal

pub overflow_mul-end : goal.overflow_mul-end
overflow_mul-end c =
    let start = c in
    omega (arith, c.blocks_in-end.ensures, blocks_within (said_count start.args.s.now) start.requires.few)

pub all-requires-clause-callable : goal.all-requires-clause-callable
all-requires-clause-callable c =
    let start = c in
    serves_from_Range (λ x q k. search rules)
    (λ x h l.
    let within : x < places * blocks (said_count start.args.s.now) = omega (arith, c.blocks_in-end.ensures) in
    search rules)

pub returns : goal.returns
unfolding roll_layout
returns c =
    let start = c in
    let s = start.args.s.now in
    let from = c.count_in.result in
    let end = places * c.blocks_in-end.result in
    all_from_yields_List (place_unused s start.requires) _ _ _ c.all.ensures.ran (YieldsList-from_range from end (end - from) (cc) (omega arith)) (λ x b q k. search (rules, tests))
    ∙ ap₂ (λ (i n : ℕ). list_all (place_unused s start.requires) (range_with_len i (places * n - i))) c.count_in.ensures c.blocks_in-end.ensures
    ∙ rest_unused s start.requires (places * blocks (said_count s) - said_count s) (said_count s) (omega (arith, (blocks_hold (said_count s)).1))
