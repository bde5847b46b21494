-- What Finalise has: the first one an active keeper, and any later one the same words whatever it is given. Assumes nothing.
use mathlib.Core.Path.{◌≡◌, refl}
use mathlib.Core.Bool.{not}
use mathlib.Core.List.{List}
use Prim.Native.Nat.{ℕ}
use borrow.Author.Tests.{eqb-true, eqb-false, not-false}
use lib.Dec.{eqb}
use Rattle.refusals.specs.{accepted, not_active}
use Rattle.refusals.specs.Order.{first}
use Rattle.refusals.proofs.Orders.{passes}
use Rattle.rules.specs.Record.{active, finalised}
use Rattle.rules.specs.Outcomes.{Lent, again, unless, lending}
use Rattle.rules.specs.Finalise.{finalise_size, last_words, finalise_refusal, finalising}

pub was_active : (k : Lent) (next : List ℕ) → finalise_refusal k next ≡ accepted → k.head.status ≡ active
unfolding finalise_refusal
was_active k next e =
    let a = passes (not (eqb k.head.status active)) not_active _ (eqb-false 4 0 refl) e in
    eqb-true k.head.status active (not-false (eqb k.head.status active) a.0)

-- "if already finalised, the earlier statement and roll again, the argument not read"
pub finalised-again :
    (k : Lent) (next : List ℕ) → first (lending finalise_size k) ≡ accepted → k.head.status ≡ finalised
    → finalising k next ≡ again (last_words k.head k.table) k
unfolding unless finalising
finalised-again k next e f = rw (e, f)
