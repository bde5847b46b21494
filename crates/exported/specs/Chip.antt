-- The chip. Demand 3: "Suppose the chip marks a signature valid only if that key's keeper had already returned that statement for signing, attests only such
-- keys".
use Rattle.std.specs.Prelude.{◌≡◌, true, cond, List, [], ◌∷◌, ℕ, eqb}
use Rattle.refusals.specs.{accepted}
use Rattle.marks.specs.{attested, valid}
use Rattle.desk.specs.Verdict.{signer_count, judging}
use Rattle.safety.specs.Histories.{Event, At, Judged, ◌∈◌, listed}
use Rattle.safety.specs.Chip.{Claim, claims_by, signer_claim}
use Rattle.exported.specs.Calls.{Box, accepts, flat}
use Rattle.exported.specs.Histories.{box_after, Returned}

-- what the marks of an accepted event claim; `mahqurith_verdict` answers `judging`
unfoldable pub claims : (List ℕ → Box) → List Event → Event → List Claim
claims start h (At key call) = cond (accepts key (box_after start h key) call) (claims_by (flat (box_after start h key)) call) []
claims start h (Judged q s signers) =
    cond (eqb (judging q s signers).number accepted) (listed (signer_count signers) (signer_claim q s signers)) []

-- a claim is true after a history
pub record Honest (keepers : List (List ℕ)) (start : List ℕ → Box) (h : List Event) (c : Claim) : Type 0 where
  -- "attests only such keys"
  pub attests : attested c.marks ≡ true → c.key ∈ keepers
  -- "marks a signature valid only if that key's keeper had already returned that statement for signing"
  pub validates : valid c.marks ≡ true → c.key ∈ keepers → Returned start c.key c.statement h

-- all that marks claim in a history is true after what came before
pub data HonestChip (keepers : List (List ℕ)) (start : List ℕ → Box) : List Event → Type 0 where
  at_first : HonestChip keepers start []
  and_then : {e : Event} {h : List Event} → ((c : Claim) → c ∈ claims start h e → Honest keepers start h c) → HonestChip keepers start h
      → HonestChip keepers start (e ∷ h)
