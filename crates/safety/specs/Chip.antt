-- The chip. Demand 3: "Suppose the chip marks a signature valid only if that key's keeper had already returned that statement for signing, attests only such
-- keys".
use Rattle.std.specs.Prelude.{◌≡◌, true, cond, List, [], ◌∷◌, ◌++◌, ℕ, get_or, eqb}
use Rattle.refusals.specs.{accepted}
use Rattle.marks.specs.{attested, valid}
use Rattle.marks.specs.Entries.{pair_position, pair_marks}
use Rattle.rack.specs.Racks.{rack_cut}
use Rattle.rules.specs.Bundle.{old_count, old_position, old_marks, new_count, new_entries}
use Rattle.rules.specs.Initialise.{initialise_statement}
use Rattle.rules.specs.Check.{old_statement}
use Rattle.desk.specs.Verdict.{Question, signer_count, judging}
use Rattle.safety.specs.Calls.{Keeper, Call, Wake, Initialise, New, Append, AppendMany, Read, AppendAndRead, Finalise, Activate, BytesToCheck, accepts}
use Rattle.safety.specs.Histories.{Event, At, Judged, keeper_after, ◌∈◌, listed, Returned}

-- what marks claim: that the key is attested, and that its signature on the statement is valid
pub record Claim : Type 0 where
  pub key : List ℕ
  pub marks : ℕ
  pub statement : List ℕ

-- the key at a position of a rack
unfoldable pub key_at : List ℕ → ℕ → List ℕ
key_at rack position = get_or (rack_cut rack).keys position []

-- "Marks of an old entry speak of the finalise statement with this identity, previous rack, own rack and that roll"
unfoldable pub old_claim : Keeper → List ℕ → List ℕ → ℕ → Claim
old_claim k previous bundle i =
    record { key = key_at previous (old_position bundle i); marks = old_marks bundle i; statement = old_statement k.head bundle i }

-- "of a new one, of the initialise statement with this keeper's own identity, racks and roll"
unfoldable pub new_claim : Keeper → List ℕ → List ℕ → ℕ → Claim
new_claim k own bundle i =
    record {
      key = key_at own (pair_position (new_entries bundle) i);
      marks = pair_marks (new_entries bundle) i;
      statement = initialise_statement k.head k.table;
    }

-- "A receipt's bytes are its statement itself."
unfoldable pub signer_claim : Question → List ℕ → List ℕ → ℕ → Claim
signer_claim q s signers i = record { key = key_at q.rack (pair_position signers i); marks = pair_marks signers i; statement = s }

-- of a call at a keeper
unfoldable pub claims_by : Keeper → Call → List Claim
claims_by k Wake = []
claims_by k (Initialise identity roll previous own area) = []
claims_by k (New label area) = []
claims_by k (Append label entry expected area) = []
claims_by k (AppendMany label list expected area) = []
claims_by k (Read label nonce area) = []
claims_by k (AppendAndRead label entry expected nonce area) = []
claims_by k (Finalise next area) = []
claims_by k (Activate previous own bundle) =
    listed (old_count bundle) (old_claim k previous bundle) ++ listed (new_count bundle) (new_claim k own bundle)
claims_by k (BytesToCheck previous own bundle list entry area) = []

-- what the marks of an accepted event claim
unfoldable pub claims : (List ℕ → Keeper) → List Event → Event → List Claim
claims start h (At key call) = cond (accepts key (keeper_after start h key) call) (claims_by (keeper_after start h key) call) []
claims start h (Judged q s signers) =
    cond (eqb (judging q s signers).number accepted) (listed (signer_count signers) (signer_claim q s signers)) []

-- a claim is true after a history
pub record Honest (keepers : List (List ℕ)) (start : List ℕ → Keeper) (h : List Event) (c : Claim) : Type 0 where
  -- "attests only such keys"
  pub attests : attested c.marks ≡ true → c.key ∈ keepers
  -- "marks a signature valid only if that key's keeper had already returned that statement for signing"
  pub validates : valid c.marks ≡ true → c.key ∈ keepers → Returned start c.key c.statement h

-- all that marks claim in a history is true after what came before
pub data HonestChip (keepers : List (List ℕ)) (start : List ℕ → Keeper) : List Event → Type 0 where
  at_first : HonestChip keepers start []
  and_then : {e : Event} {h : List Event} → ((c : Claim) → c ∈ claims start h e → Honest keepers start h c) → HonestChip keepers start h
      → HonestChip keepers start (e ∷ h)
