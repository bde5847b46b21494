-- The strings hashed. Demand 3: "no two different strings hashed in these calls, or for the statements that marks speak of, share a digest and none gives all
-- zeros". It is asked only of the roll that an accepted Finalise signs, of both racks and the old rolls of an accepted Activate, and of the rack of an accepted
-- verdict: of no entry, no tail, no block, and nothing that Initialise hashes.
use Rattle.std.specs.Prelude.{◌≡◌, cond, List, [], ◌∷◌, ℕ, eqb}
use Rattle.refusals.specs.{accepted}
use Rattle.hash.specs.Sha256.{sha256}
use Rattle.rack.specs.Racks.{rack_string}
use Rattle.rows.specs.Digests.{roll_string}
use Rattle.statement.specs.Cut.{no_digest}
use Rattle.rules.specs.Bundle.{old_count}
use Rattle.rules.specs.Derivation.{roll_of}
use Rattle.desk.specs.Verdict.{Question, judging}
use Rattle.safety.specs.Calls.{Keeper, Call, Wake, Initialise, New, Append, AppendMany, Read, AppendAndRead, Finalise, Activate, BytesToCheck, accepts}
use Rattle.safety.specs.Histories.{Event, At, Judged, keeper_after, ◌∈◌, listed}

-- the roll of old entry i of a bundle
unfoldable pub old_string : List ℕ → ℕ → List ℕ
old_string bundle i = roll_string (roll_of bundle i).count (roll_of bundle i).rows

-- by a call at a keeper
unfoldable pub hashed_by : Keeper → Call → List (List ℕ)
hashed_by k Wake = []
hashed_by k (Initialise identity roll previous own area) = []
hashed_by k (New label area) = []
hashed_by k (Append label entry expected area) = []
hashed_by k (AppendMany label list expected area) = []
hashed_by k (Read label nonce area) = []
hashed_by k (AppendAndRead label entry expected nonce area) = []
hashed_by k (Finalise next area) = roll_string k.head.count k.table ∷ []
hashed_by k (Activate previous own bundle) = rack_string previous ∷ rack_string own ∷ listed (old_count bundle) (old_string bundle)
hashed_by k (BytesToCheck previous own bundle list entry area) = []

-- by an accepted event
unfoldable pub hashed_at : (List ℕ → Keeper) → List Event → Event → List (List ℕ)
hashed_at start h (At key call) = cond (accepts key (keeper_after start h key) call) (hashed_by (keeper_after start h key) call) []
hashed_at start h (Judged q s signers) = cond (eqb (judging q s signers).number accepted) (rack_string q.rack ∷ []) []

pub data Hashed (start : List ℕ → Keeper) (s : List ℕ) : List Event → Type 0 where
  now_hashed : {e : Event} {h : List Event} → s ∈ hashed_at start h e → Hashed start s (e ∷ h)
  before_hashed : {e : Event} {h : List Event} → Hashed start s h → Hashed start s (e ∷ h)

pub record ToldApart (start : List ℕ → Keeper) (h : List Event) : Type 0 where
  -- "no two different strings .. share a digest"
  pub apart : (s t : List ℕ) → Hashed start s h → Hashed start t h → sha256 s ≡ sha256 t → s ≡ t
  -- "none gives all zeros"
  pub not_zeros : (s : List ℕ) → Hashed start s h → sha256 s ≡ no_digest → ⊥
