use mathlib.Core.Path.{◌≡◌, sym, ap₂, ◌∙◌}
use mathlib.Core.List.{List}
use Prim.Native.Nat.{ℕ, ◌*◌, ◌<◌}
use Rattle.rows.specs.Search.{find}
use Rattle.std.specs.Prelude.{Ok, Err}
use Rattle.roll.specs.Blocks.{places, blocks}
use Rattle.roll.specs.Roll.{said_count, roll_layout}
use Rattle.roll.proofs.Spreads.{roll_spread}
use Rattle.gathering.proofs.FoundPlaces.{found_place}
use Rattle.gathering.specs.Old.{row_of}
use Rattle.gathering.proofs.old.old_row.Goals as goal
use Rattle.gathering.proofs.old.old_row.Goals.{In-Ok}

-- the row that is found has a place
within : (c : In-Ok) → c.in-Ok.q < places * blocks (said_count c.args.roll.now)
within c =
    let start = c in
    found_place start.args.roll.now (roll_spread start.args.roll.now start.requires) _ c.in-Ok.q
    (sym c.find_in.ensures ∙ c.in-Ok.is)

pub height_in-requires : goal.height_in-requires
height_in-requires c = let start = c in (roll_spread start.args.roll.now start.requires, within c)

pub tail_in-requires : goal.tail_in-requires
tail_in-requires c =
    let start = c in
    (roll_spread start.args.roll.now start.requires, within (goal.at.tail_in-requires c).In-Ok)

pub returns-in-Ok : goal.returns-in-Ok
unfolding row_of
returns-in-Ok c =
    let a = c.args in
    let roll = roll_layout.cut a.roll.now in
    let e : find roll.count roll.rows a.label ≡ Ok c.in-Ok.q = sym
    c.find_in.ensures ∙ c.in-Ok.is in
    rw e (ap₂ (λ (h : ℕ) (t : List ℕ). record { height = h; tail = t }) c.height_in.ensures c.tail_in.ensures)

pub returns-in-Err : goal.returns-in-Err
unfolding row_of
returns-in-Err c =
    let a = c.args in
    let roll = roll_layout.cut a.roll.now in
    let e : find roll.count roll.rows a.label ≡ Err c.in-Err.field-0 = sym c.find_in.ensures
    ∙ c.in-Err.is in
    rw e
