-- The strings hashed. Demand 3: "no two different strings hashed in these calls, or for the statements that marks speak of, share a digest and none gives all
-- zeros", of the racks and rolls that `hashed_by` of `safety` names, in accepted calls and verdicts.
use Rattle.std.specs.Prelude.{◌≡◌, cond, List, [], ◌∷◌, ℕ, eqb}
use Rattle.refusals.specs.{accepted}
use Rattle.hash.specs.Sha256.{sha256}
use Rattle.rack.specs.Racks.{rack_string}
use Rattle.statement.specs.Cut.{no_digest}
use Rattle.desk.specs.Verdict.{judging}
use Rattle.safety.specs.Histories.{Event, At, Judged, ◌∈◌}
use Rattle.safety.specs.Hashed.{hashed_by}
use Rattle.exported.specs.Calls.{Box, accepts, flat}
use Rattle.exported.specs.Histories.{box_after}

unfoldable pub hashed_at : (List ℕ → Box) → List Event → Event → List (List ℕ)
hashed_at start h (At key call) = cond (accepts key (box_after start h key) call) (hashed_by (flat (box_after start h key)) call) []
hashed_at start h (Judged q s signers) = cond (eqb (judging q s signers).number accepted) (rack_string q.rack ∷ []) []

pub data Hashed (start : List ℕ → Box) (s : List ℕ) : List Event → Type 0 where
  now_hashed : {e : Event} {h : List Event} → s ∈ hashed_at start h e → Hashed start s (e ∷ h)
  before_hashed : {e : Event} {h : List Event} → Hashed start s h → Hashed start s (e ∷ h)

pub record ToldApart (start : List ℕ → Box) (h : List Event) : Type 0 where
  -- "no two different strings .. share a digest"
  pub apart : (s t : List ℕ) → Hashed start s h → Hashed start t h → sha256 s ≡ sha256 t → s ≡ t
  -- "none gives all zeros"
  pub not_zeros : (s : List ℕ) → Hashed start s h → sha256 s ≡ no_digest → ⊥
