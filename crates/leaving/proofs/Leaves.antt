-- What Finalise may count on where nothing refuses it: a sound record with room, and a next rack. Assumes nothing.
use mathlib.Core.Path.{◌≡◌, refl, sym, ◌∙◌}
use mathlib.Core.Bool.{true, false, not}
use mathlib.Core.List.{List, [], ◌∷◌}
use Prim.Native.Nat.{ℕ, ◌≤◌}
use borrow.Author.Tests.{eqb-false, not-false}
use lib.ListN.{length}
use lib.Dec.{eqb}
use Rattle.refusals.specs.{accepted, not_active, out_of_order, rack_broken, rack_of_two}
use Rattle.refusals.specs.Order.{◌⇒◌, first}
use Rattle.refusals.proofs.Orders.{passes, lacks, lacking}
use Rattle.octets.specs.Layouts.{holds}
use Rattle.rack.specs.Racks.{rack_layout, is_of_two}
use Rattle.rows.specs.Table.{rows_fit}
use Rattle.rules.specs.Record.{active}
use Rattle.rules.specs.Outcomes.{Lent, lending}
use Rattle.rules.specs.Finalise.{finalise_size, finalise_refusal}
use Rattle.rules.proofs.Firsts.{lent, sound_rows}

-- the rows and the room of a record that passes
pub can_speak :
    (k : Lent) (n : ℕ) → n ≡ first (lending finalise_size k) → n ≡ accepted
    → (rows_fit k.head.count k.table ≡ true) × (finalise_size ≤ length k.area)
unfolding lending
can_speak k n e accepts =
    let s = (lent finalise_size k [] (sym e ∙ accepts)).0 in
    (sound_rows k.head k.table s.sounds, s.room)

pub next-holds : (k : Lent) (next : List ℕ) → finalise_refusal k next ≡ accepted → holds rack_layout next ≡ true
unfolding finalise_refusal
next-holds k next e =
    let acts = passes (not (eqb k.head.status active)) not_active _ (eqb-false 4 0 refl) e in
    not-false (holds rack_layout next) (passes (not (holds rack_layout next)) rack_broken _ (eqb-false 6 0 refl) acts.1).0

-- no test is of the order of entries
pub lent_in_order : (k : Lent) → eqb (first (lending finalise_size k)) out_of_order ≡ false
unfolding lending lacks
lent_in_order k = lacking out_of_order (lending finalise_size k) refl

pub left_in_order : (k : Lent) (next : List ℕ) → eqb (finalise_refusal k next) out_of_order ≡ false
unfolding finalise_refusal lacks
left_in_order k next =
    lacking out_of_order
    ((not (eqb k.head.status active) ⇒ not_active) ∷ (not (holds rack_layout next) ⇒ rack_broken) ∷ (is_of_two next ⇒ rack_of_two) ∷ []) refl
