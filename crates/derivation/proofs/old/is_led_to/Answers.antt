use borrow.Author.Rules.{rules}
use mathlib.Core.Path.{ap₂, ◌∙◌}
use mathlib.Core.Bool.{◌&&◌}
use mathlib.Core.List.{List}
use Prim.Native.Nat.{ℕ, ◌+◌, ◌*◌, ◌/◌, ◌<◌}
use lib.ListN.{length}
use lib.Dec.{eqb}
use Rattle.octets.specs.Strings.{same}
use Rattle.rows.specs.Row.{tail_of, height_of}
use Rattle.roll.specs.Blocks.{places, blocks}
use Rattle.roll.specs.Roll.{said_count, roll_layout}
use Rattle.roll.proofs.Spreads.{has_place}
use Rattle.rules.specs.Derivation.{grown}
use Rattle.derivation.specs.Walk.{derived_from}
use Rattle.derivation.proofs.old.is_led_to.Goals as goal
use Rattle.derivation.proofs.old.is_led_to.Goals.{In-Some}

-- the old roll's row has a place
within : (c : In-Some) → c.in-Some.q < places * blocks (said_count c.args.roll.now)
unfolding roll_layout
within c = has_place c.args.roll.now c.requires.0 c.in-Some.q (rw c.in-Some.is at c.requires.3)

pub height_in-requires : goal.height_in-requires
height_in-requires c = (search rules, within c)

pub tail_in-requires : goal.tail_in-requires
tail_in-requires c = (search rules, within (goal.at.tail_in-requires c).In-Some)

pub returns-in-Some : goal.returns-in-Some
unfolding derived_from
returns-in-Some c =
    let a = c.args in
    let s = a.s.now in
    let ours = a.ours.now in
    let n = length s / 32 in
    rw c.in-Some.is
    (c.is_grown.ensures
    ∙ ap₂ (λ (h : ℕ) (t : List ℕ). eqb (h + n) (height_of ours a.r) && same (grown t s n) (tail_of ours a.r))
    c.height_in.ensures c.tail_in.ensures)

pub returns-in-None : goal.returns-in-None
unfolding derived_from
returns-in-None c = rw c.in-None.is c.is_grown-in-None.ensures
