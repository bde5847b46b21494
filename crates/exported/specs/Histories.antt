-- Histories of exported calls and verdicts, newest first. Demand 3: "Take keepers with different keys, each woken once, before any other call, their records
-- touched by these calls alone, called in any order with any arguments."
use Rattle.std.specs.Prelude.{Bool, true, not, cond, ◌&&◌, List, [], ◌∷◌, ℕ}
use Rattle.octets.specs.Strings.{same}
use Rattle.safety.specs.Calls.{Call, is_wake, sized}
use Rattle.safety.specs.Histories.{Event, At, Judged, called, ◌∈◌}
use Rattle.exported.specs.Calls.{Box, left_by, accepts, for_signing}

-- "their records touched by these calls alone": the head and rows of each key's keeper after a history, from whatever heads and rows there were
unfoldable pub box_after : (List ℕ → Box) → List Event → List ℕ → Box
box_after start [] key = start key
box_after start (At k call ∷ h) key = cond (same k key) (left_by key (box_after start h key) call) (box_after start h key)
box_after start (Judged q s signers ∷ h) key = box_after start h key

-- "each woken once, before any other call": the first call at a key, and no later one, is a Wake, and it is accepted; arguments have their fixed sizes
unfoldable pub in_order : (List ℕ → Box) → List Event → Event → Bool
in_order start h (At key call) =
    cond (is_wake call)
    (not (called key h) && accepts key (box_after start h key) call)
    (called key h && sized call)
in_order start h (Judged q s signers) = true

unfoldable pub orderly : (List ℕ → Box) → List Event → Bool
orderly start [] = true
orderly start (e ∷ h) = in_order start h e && orderly start h

-- a call at a key had left a statement in the area for signing
pub data Returned (start : List ℕ → Box) (key s : List ℕ) : List Event → Type 0 where
  now_returned : {call : Call} {h : List Event} → s ∈ for_signing key (box_after start h key) call → Returned start key s (At key call ∷ h)
  before_returned : {e : Event} {h : List Event} → Returned start key s h → Returned start key s (e ∷ h)
