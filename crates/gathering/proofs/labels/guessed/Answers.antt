use mathlib.Core.Path.{refl, sym, ◌∙◌}
use native.Mathlib.Omega.{arith}
use Rattle.rows.specs.Table.{each}
use Rattle.roll.specs.Roll.{roll_layout}
use Rattle.roll.proofs.Spreads.{roll_spread}
use Rattle.gathering.proofs.Nearest.{roll_fits, guess_holds}
use Rattle.gathering.proofs.labels.guessed.Goals as goal

pub returns-then-guess-eq0 : goal.returns-then-guess-eq0
unfolding each
returns-then-guess-eq0 c = (omega arith, refl)

pub count_in-requires : goal.count_in-requires
count_in-requires c = roll_spread c.args.roll.now c.requires

pub returns-then-count_in-guess : goal.returns-then-count_in-guess
unfolding each
returns-then-count_in-guess c = (omega arith, refl)

pub returns-then-is_after : goal.returns-then-is_after
unfolding each
returns-then-is_after c = (omega arith, refl)

pub returns : goal.returns
returns c =
    let a = c.args in
    let h = c.count_in.ensures in (
      omega (arith, h),
      guess_holds (roll_layout.cut a.roll.now) (roll_fits a.roll.now c.requires) a.last a.last
          a.guess (omega arith) (omega (arith, h))
          (sym c.is_after.ensures ∙ c.if-is_after.false),
    )
