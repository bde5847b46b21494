-- Each call's contract allows one outcome: two that it allows for the same arguments have the same result, and leave the same bundle; and an answer other than 0
-- leaves the bundle as it was lent. Assumes nothing.
use mathlib.Core.Path.{◌≡◌, refl, sym, ◌∙◌}
use mathlib.Core.Bool.{Bool, true, false, cond, ◌&&◌}
use mathlib.Core.List.{List}
use Prim.Native.Nat.{ℕ}
use lib.ListN.{set}
use Rattle.refusals.specs.{accepted, list_broken}
use Rattle.marks.specs.{marks_fit}
use Rattle.rack.proofs.Outcomes.{One}
use Rattle.marking.specs.declared.Position.{Position}
use Rattle.marking.specs.Entry.{marks_place, has_entry}
use Rattle.marking.specs.Calls.{Marked, marking}
use Rattle.marking.proofs.Told.{bundle_left}
use Rattle.marking.proofs.calls.mahqurith_bundle_position.Kinds as position
use Rattle.marking.proofs.calls.mahqurith_bundle_position.Reads as position-contract
use Rattle.marking.proofs.calls.mahqurith_bundle_mark.Kinds as mark
use Rattle.marking.proofs.calls.mahqurith_bundle_mark.Reads as mark-contract

pub position_one : One 1 position.ps position.r Position position-contract.Post (λ κs r e. r)
position_one κs a r r' e e' p q = p ∙ sym q

pub mark_one : One 1 mark.ps mark.r Marked mark-contract.Post (λ κs r e. record { answer = r; bundle = e.0.now })
mark_one κs a r r' e e' p q = p ∙ sym q

pub mark_spared : (s : List ℕ) (list i m : ℕ) → ((marking s list i m).answer ≡ accepted → ⊥) → (marking s list i m).bundle ≡ s
unfolding marking
mark_spared s list i m = go (has_entry s list i && marks_fit m)
  where
    told : Bool → Marked
    told b = cond b (bundle_left accepted (set s (marks_place s list i) m)) (bundle_left list_broken s)

    go : (b : Bool) → ((told b).answer ≡ accepted → ⊥) → (told b).bundle ≡ s
    go true refused = absurd (refused refl)
    go false refused = refl
