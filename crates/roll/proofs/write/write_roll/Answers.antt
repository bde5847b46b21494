use mathlib.Core.Path.{◌≡◌, sym, ap, ap₂, ◌∙◌}
use mathlib.Core.List.{List}
use Prim.Native.Nat.{ℕ, ◌*◌}
use native.Mathlib.Omega.{arith}
use Rattle.octets.specs.Strings.{put}
use Rattle.rows.proofs.Tables.{fit_length, fit_count}
use Rattle.roll.specs.Blocks.{blocks, first_blocks, block_bytes}
use Rattle.roll.proofs.Blocks.{blocks_within}
use Rattle.roll.proofs.Rolls.{writing-broken, writing_short, writing_done}
use Rattle.roll.proofs.write.write_roll.Goals as goal

pub returns-then-not-rows_fit : goal.returns-then-not-rows_fit
returns-then-not-rows_fit c =
    let a = c.args in
    sym (writing-broken a.count a.rows.now a.area.now (sym c.rows_fit.ensures ∙ c.if-not-rows_fit.true))

pub overflow_mul-size : goal.overflow_mul-size
overflow_mul-size c =
    let a = c.args in
    let fit = sym c.rows_fit.ensures ∙ c.if-not-rows_fit.false in
    omega (arith, c.blocks-n.ensures, blocks_within a.count (fit_count a.count a.rows.now fit))

pub returns-then-area-size : goal.returns-then-area-size
returns-then-area-size c =
    let a = c.args in
    let fit = sym c.rows_fit.ensures ∙ c.if-not-rows_fit.false in
    let n : c.blocks-n.result ≡ blocks a.count = c.blocks-n.ensures in
    sym (writing_short a.count a.rows.now a.area.now fit (omega arith))

pub put_blocks-requires : goal.put_blocks-requires
put_blocks-requires c =
    let a = c.args in
    let fit = sym c.rows_fit.ensures ∙ c.if-not-rows_fit.false in
    let n : c.blocks-n.result ≡ blocks a.count = c.blocks-n.ensures in
    (fit_count a.count a.rows.now fit, fit_length a.count a.rows.now fit, omega arith, omega arith)

pub returns : goal.returns
returns c =
    let a = c.args in
    let fit = sym c.rows_fit.ensures ∙ c.if-not-rows_fit.false in
    let n : c.blocks-n.result ≡ blocks a.count = c.blocks-n.ensures in
    ap₂ (λ (k : ℕ) (z : List ℕ). record { answer = 0; count = block_bytes * k; area = z }) n
    (c.put_blocks.ensures ∙ ap (λ (k : ℕ). put a.area.now 0 (first_blocks a.count a.rows.now k)) n)
    ∙ sym (writing_done a.count a.rows.now a.area.now fit (omega arith))
