-- Demand 3 of the exported calls: "Then two accepted verdicts with one identity, ledger and height name the same tail, across any handovers."
use Rattle.std.specs.Prelude.{◌≡◌, true, List, ℕ}
use Rattle.safety.specs.Histories.{Event}
use Rattle.safety.specs.Demand.{Accepted}
use Rattle.exported.specs.Types.{are_rows, handed_bytes}
use Rattle.exported.specs.Calls.{Box}
use Rattle.exported.specs.Histories.{orderly}
use Rattle.exported.specs.Chip.{HonestChip}
use Rattle.exported.specs.Hashed.{ToldApart}

abbrev pub Demand3 : Type 0
Demand3 =
    (keepers : List (List ℕ)) (start : List ℕ → Box) (h : List Event)
    -- what C's types give
    → ((key : List ℕ) → are_rows (start key).rows ≡ true)
    → handed_bytes h ≡ true
    -- what demand 3 supposes
    → orderly start h ≡ true
    → HonestChip keepers start h
    → ToldApart start h
    → (identity label : List ℕ) (height : ℕ) (t u : List ℕ)
    → Accepted h identity label height t
    → Accepted h identity label height u
    → t ≡ u
