-- What an accepted Initialise has. Assumes nothing.
use mathlib.Core.Path.{◌≡◌, refl}
use mathlib.Core.Bool.{true, false, not, cond, ◌&&◌}
use mathlib.Core.List.{List}
use Prim.Native.Nat.{ℕ}
use borrow.Author.Tests.{eqb-false}
use Rattle.refusals.specs.{accepted, not_blank, rack_broken, rack_of_two, key_not_in_rack, roll_or_rack_alone, roll_broken}
use Rattle.refusals.proofs.Orders.{passes}
use Rattle.octets.specs.Layouts.{holds}
use Rattle.rack.specs.Racks.{rack_layout, is_of_two}
use Rattle.roll.specs.Roll.{roll_layout}
use Rattle.statement.specs.Kinds.{handover_size}
use Rattle.rules.specs.Record.{blank, sound}
use Rattle.rules.specs.Outcomes.{Lent}
use Rattle.rules.specs.Initialise.{absent, is_in_rack, initialise_refusal}
use Rattle.rules.proofs.Firsts.{ready}

-- what is known where nothing refuses: the keeper is blank and its record sound, there is a previous rack where there is a roll, and the roll keeps the layout
pub record Initialisable (k : Lent) (roll previous : List ℕ) : Type 0 where
  pub was : k.head.status ≡ blank
  pub sounds : sound k.head k.table ≡ true
  pub paired : cond (absent roll) (not (absent previous)) (absent previous) ≡ false
  pub rolls : (not (absent roll) && not (holds roll_layout roll)) ≡ false

pub initialisable : (k : Lent) (roll previous own : List ℕ) → initialise_refusal k roll previous own ≡ accepted → Initialisable k roll previous
unfolding initialise_refusal
initialisable k roll previous own e =
    let r = ready handover_size blank not_blank k _ (eqb-false 3 0 refl) e in
    let a = passes (not (holds rack_layout own)) rack_broken _ (eqb-false 6 0 refl) r.1 in
    let g = passes (is_of_two own) rack_of_two _ (eqb-false 38 0 refl) a.1 in
    let b = passes (not (is_in_rack k.head.key own)) key_not_in_rack _ (eqb-false 7 0 refl) g.1 in
    let c = passes (cond (absent roll) (not (absent previous)) (absent previous)) roll_or_rack_alone _ (eqb-false 8 0 refl) b.1 in
    let d = passes (not (absent previous) && not (holds rack_layout previous)) rack_broken _ (eqb-false 6 0 refl) c.1 in
    let f = passes (not (absent roll) && not (holds roll_layout roll)) roll_broken _ (eqb-false 15 0 refl) d.1 in
    record { was = r.0.acts; sounds = r.0.sounds; paired = c.0; rolls = f.0 }
