-- After any history, the heads and rows that a program holds are the flat records that the rules leave. Assumes nothing.
use mathlib.Core.Path.{◌≡◌, refl, ap, ◌∙◌}
use mathlib.Core.Bool.{Bool, true, false, cond, ◌&&◌}
use mathlib.Core.List.{List, [], ◌∷◌}
use Prim.Native.Nat.{ℕ}
use Rattle.octets.specs.Strings.{same}
use Rattle.octets.proofs.RoundTrips.{and_left, and_right}
use Rattle.table.proofs.RowTrips.{AllTyped}
use Rattle.safety.specs.Calls.{Keeper, Call}
use Rattle.safety.specs.Calls as rules
use Rattle.safety.specs.Histories.{Event, At, Judged, keeper_after}
use Rattle.exported.specs.Types.{are_rows, hands_bytes, handed_bytes}
use Rattle.exported.specs.Calls.{Box, left_by, flat}
use Rattle.exported.specs.Histories.{box_after}
use Rattle.exported.proofs.RowsGiven.{rows_typed}
use Rattle.exported.proofs.CallsFlat.{left-flat}

-- what was handed over before
pub before : (e : Event) (h : List Event) → handed_bytes (e ∷ h) ≡ true → handed_bytes h ≡ true
unfolding handed_bytes
before (At key call) h bytes = and_right (hands_bytes call) (handed_bytes h) bytes
before (Judged q s signers) h bytes = bytes

-- a record as rows and as bytes
abbrev pub Stands : Box → Keeper → Type 0
Stands b k = (flat b ≡ k) × AllTyped b.rows

-- after a call at this key, or at another
moves :
    (here : Bool) (key : List ℕ) (call : Call) (b : Box) (k : Keeper) → hands_bytes call ≡ true → Stands b k
    → Stands (cond here (left_by key b call) b) (cond here (rules.left_by key k call) k)
moves true key call b k bytes s =
    let l = left-flat key b call s.1 bytes in
    (l.0 ∙ ap (λ (x : Keeper). rules.left_by key x call) s.0, l.1)
moves false key call b k bytes s = s

-- the records at the start
abbrev pub flat_start : (List ℕ → Box) → List ℕ → Keeper
flat_start start key = flat (start key)

module _ (start : List ℕ → Box) (rows : (key : List ℕ) → are_rows (start key).rows ≡ true) where
  pub stands : (h : List Event) → handed_bytes h ≡ true → (key : List ℕ) → Stands (box_after start h key) (keeper_after (flat_start start) h key)
  unfolding box_after keeper_after handed_bytes
  stands [] bytes key = (refl, rows_typed (start key).rows (rows key))
  stands (At k call ∷ h) bytes key =
      moves (same k key) key call (box_after start h key) (keeper_after (flat_start start) h key) (and_left (hands_bytes call) (handed_bytes h) bytes)
      (stands h (and_right (hands_bytes call) (handed_bytes h) bytes) key)
  stands (Judged q s signers ∷ h) bytes key = stands h bytes key
