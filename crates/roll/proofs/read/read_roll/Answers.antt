use mathlib.Core.Path.{◌≡◌, sym, ap₂, ◌∙◌}
use mathlib.Core.Bool.{true}
use mathlib.Core.List.{List}
use Prim.Native.Nat.{ℕ}
use borrow.Author.Rules.{rules}
use Rattle.refusals.specs.{accepted}
use Rattle.octets.specs.Layouts.{holds}
use Rattle.roll.specs.Roll.{roll_layout, Reading}
use Rattle.roll.proofs.Rolls.{reading_broken, reading_done}
use Rattle.roll.proofs.read.read_roll.Goals as goal
use Rattle.roll.proofs.read.read_roll.Goals.{Else-not-is_roll}

-- what is not refused is a roll
held : (c : Else-not-is_roll) → holds roll_layout c.args.s.now ≡ true
held c = sym c.is_roll.ensures ∙ c.if-not-is_roll.false

pub returns-then-not-is_roll : goal.returns-then-not-is_roll
returns-then-not-is_roll c =
    let a = c.args in
    sym (reading_broken a.s.now a.rows.now (sym c.is_roll.ensures ∙ c.if-not-is_roll.true))

pub take_rows-requires : goal.take_rows-requires
take_rows-requires c = (held (goal.at.take_rows-requires c).Else-not-is_roll, search rules)

pub returns : goal.returns
unfolding roll_layout
returns c =
    let a = c.args in
    let took = c.take_rows.ensures in
    ap₂ {C = Reading} (λ (n : ℕ) (r : List ℕ). record { answer = accepted; count = n; rows = r }) took.0 took.1
    ∙ sym (reading_done a.s.now a.rows.now (held (goal.at.returns c).Else-not-is_roll))
