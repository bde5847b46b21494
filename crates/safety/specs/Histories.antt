-- Histories of calls and verdicts, newest first. Demand 3: "Take keepers with different keys, each woken once, before any other call, their records touched
-- by these calls alone, called in any order with any arguments."
use Rattle.std.specs.Prelude.{Bool, true, false, not, cond, ◌&&◌, ◌||◌, List, [], ◌∷◌, ℕ, zero, suc}
use Rattle.octets.specs.Strings.{same}
use Rattle.desk.specs.Verdict.{Question}
use Rattle.safety.specs.Calls.{Keeper, Call, left_by, accepts, for_signing, is_wake, sized}

-- a call at the keeper with a key, or a verdict on a statement and signers
pub data Event : Type 0 where
  At : (key : List ℕ) → Call → Event
  Judged : Question → (statement signers : List ℕ) → Event

-- "their records touched by these calls alone": the record of each key's keeper after a history, from whatever records there were
unfoldable pub keeper_after : (List ℕ → Keeper) → List Event → List ℕ → Keeper
keeper_after start [] key = start key
keeper_after start (At k call ∷ h) key =
    cond (same k key) (left_by key (keeper_after start h key) call) (keeper_after start h key)
keeper_after start (Judged q s signers ∷ h) key = keeper_after start h key

-- whether there was a call at a key
unfoldable pub called : List ℕ → List Event → Bool
called key [] = false
called key (At k call ∷ h) = same k key || called key h
called key (Judged q s signers ∷ h) = called key h

-- "each woken once, before any other call": the first call at a key, and no later one, is a Wake, and it is accepted; later ones have arguments of their sizes
unfoldable pub in_order : (List ℕ → Keeper) → List Event → Event → Bool
in_order start h (At key call) =
    cond (is_wake call)
    (not (called key h) && accepts key (keeper_after start h key) call)
    (called key h && sized call)
in_order start h (Judged q s signers) = true

unfoldable pub orderly : (List ℕ → Keeper) → List Event → Bool
orderly start [] = true
orderly start (e ∷ h) = in_order start h e && orderly start h

-- an element of a list
infixr 15 ◌∈◌
pub data ◌∈◌ {A : Type 0} (x : A) : List A → Type 0 where
  at_front : {l : List A} → x ∈ (x ∷ l)
  behind : {y : A} {l : List A} → x ∈ l → x ∈ (y ∷ l)

-- what a function gives for each number below n
unfoldable pub listed : {A : Type 0} → ℕ → (ℕ → A) → List A
listed zero f = []
listed (suc n) f = f n ∷ listed n f

-- the keeper with a key had returned a statement for signing
pub data Returned (start : List ℕ → Keeper) (key s : List ℕ) : List Event → Type 0 where
  now_returned : {call : Call} {h : List Event} → s ∈ for_signing key (keeper_after start h key) call → Returned start key s (At key call ∷ h)
  before_returned : {e : Event} {h : List Event} → Returned start key s h → Returned start key s (e ∷ h)
