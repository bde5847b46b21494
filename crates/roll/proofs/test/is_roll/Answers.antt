use mathlib.Core.Path.{◌≡◌, sym, ◌∙◌}
use native.Mathlib.Omega.{arith}
use lib.ListN.{get_or}
use Rattle.roll.specs.Blocks.{blocks, count_place}
use Rattle.roll.specs.Roll.{said_count, roll_layout}
use Rattle.roll.specs.Places.{Spread}
use Rattle.roll.proofs.Blocks.{blocks_within, blocks_hold}
use Rattle.roll.proofs.Rolls.{no_fit, no_length, no_count, blocks_decide}
use Rattle.roll.proofs.test.is_roll.Goals as goal
use Rattle.roll.proofs.test.is_roll.Goals.{Else-s-blocks}

-- what the first three tests have shown
spread : (c : Else-s-blocks) → Spread c.args.s.now
unfolding said_count
spread c = record { few = omega (arith, c.if-from-gt-MOST.false, c.from.ensures); long = omega (arith, c.blocks-2.ensures) }

pub returns-then-s-lt-BLOCK : goal.returns-then-s-lt-BLOCK
unfolding said_count
returns-then-s-lt-BLOCK c =
    let s = c.args.s.now in
    let hold = blocks_hold (said_count s) in
    sym (no_length s (λ e. omega arith))

pub returns-then-from-gt-MOST : goal.returns-then-from-gt-MOST
unfolding said_count
returns-then-from-gt-MOST c = sym (no_count c.args.s.now (omega (arith, c.if-from-gt-MOST.true, c.from.ensures)))

pub overflow_mul-blocks : goal.overflow_mul-blocks
overflow_mul-blocks c =
    let a = c.args in
    omega (arith, c.blocks-2.ensures, blocks_within (get_or a.s.now count_place 0) (omega (arith, c.if-from-gt-MOST.false, c.from.ensures)))

pub returns-then-s-blocks : goal.returns-then-s-blocks
unfolding said_count
returns-then-s-blocks c =
    let s = c.args.s.now in
    let n : c.blocks-2.result ≡ blocks (said_count s) = c.blocks-2.ensures in
    sym (no_length s (λ e. omega arith))

pub rows_stand-requires : goal.rows_stand-requires
rows_stand-requires c = spread c

pub returns-else-rows_stand : goal.returns-else-rows_stand
unfolding roll_layout
returns-else-rows_stand c = c.if-rows_stand.false ∙ sym (no_fit c.args.s.now (sym c.rows_stand.ensures ∙ c.if-rows_stand.false))

pub are_blocks-requires : goal.are_blocks-requires
are_blocks-requires c = spread (goal.at.are_blocks-requires c).Else-s-blocks

pub returns-then-rows_stand : goal.returns-then-rows_stand
unfolding roll_layout
returns-then-rows_stand c =
    c.are_blocks.ensures
    ∙ sym (blocks_decide c.args.s.now (sym c.rows_stand.ensures ∙ c.if-rows_stand.true))
