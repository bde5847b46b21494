-- Histories told with the keeper that each call leaves, and what the outcomes of their calls say of the premises of demand 3. Assumes nothing.
use mathlib.Core.Path.{◌≡◌, refl, sym, ap, subst, ◌∙◌}
use mathlib.Core.Bool.{Bool, true, false, not, cond, ◌&&◌}
use mathlib.Core.List.{List, [], ◌∷◌}
use Prim.Native.Nat.{ℕ}
use lib.Dec.{eqb}
use Rattle.refusals.specs.{accepted}
use Rattle.octets.specs.Strings.{put, same}
use Rattle.octets.proofs.RoundTrips.{same_is}
use Rattle.rack.specs.Racks.{rack_string}
use Rattle.rules.specs.Outcomes.{Outcome, given}
use Rattle.desk.specs.Verdict.{Question, signer_count, judging}
use Rattle.safety.specs.Calls.{Keeper, Call, outcome_of, left_by, accepts, statements_in, for_signing, is_wake, sized}
use Rattle.safety.specs.Histories.{Event, At, Judged, keeper_after, called, in_order, orderly, ◌∈◌, at_front, behind, listed}
use Rattle.safety.specs.Histories.{Returned, now_returned, before_returned}
use Rattle.safety.specs.Chip.{Claim, signer_claim, claims_by, claims, Honest, HonestChip, at_first, and_then}
use Rattle.safety.specs.Hashed.{hashed_by, hashed_at, Hashed, now_hashed, before_hashed}

-- a call at a key with the keeper that it leaves, or a verdict
pub data Beat : Type 0 where
  turn : (who : List ℕ) → Call → Keeper → Beat
  verdict : Question → (statement signers : List ℕ) → Beat

abbrev pub event : Beat → Event
event (turn who call left) = At who call
event (verdict q s signers) = Judged q s signers

abbrev pub events : List Beat → List Event
events [] = []
events (b ∷ l) = event b ∷ events l

-- the keeper with a key after so much
abbrev pub now : (List ℕ → Keeper) → List Beat → List ℕ → Keeper
now start [] x = start x
now start (turn who call left ∷ l) x = cond (same who x) left (now start l x)
now start (verdict q s signers ∷ l) x = now start l x

-- a call is accepted at a keeper, leaves another and writes so many bytes into an area
pub record Gives (who : List ℕ) (k : Keeper) (call : Call) (left : Keeper) (bytes area : List ℕ) : Type 0 where
  pub outcome_is : outcome_of who k call ≡ given bytes left.head left.table area

module _ {who : List ℕ} {k : Keeper} {call : Call} {left : Keeper} {bytes area : List ℕ} (g : Gives who k call left bytes area) where
  accepts_so : accepts who k call ≡ true
  unfolding accepts given
  accepts_so = ap (λ (o : Outcome). eqb o.answer.number accepted) g.outcome_is

  leaves_so : left_by who k call ≡ left
  unfolding left_by given
  leaves_so = ap (λ (o : Outcome). record { head = o.left.head; table = o.left.table }) g.outcome_is

  pub signs_so : for_signing who k call ≡ statements_in call (put area 0 bytes)
  unfolding for_signing accepts given
  signs_so =
      ap (λ (o : Outcome). cond (eqb o.answer.number accepted && not o.answer.repeat) (statements_in call o.left.area) []) g.outcome_is

-- each of a list
pub data All {A : Type 0} (P : A → Type 0) : List A → Type 0 where
  none : All P []
  and : {x : A} {l : List A} → P x → All P l → All P (x ∷ l)

all_of : {A : Type 0} {P : A → Type 0} {x : A} {l : List A} → x ∈ l → All P l → P x
all_of at_front (and p a) = p
all_of (behind m) (and p a) = all_of m a

-- each call is accepted where it stands, first woken, with arguments of their sizes; what marks claim is honest; and the strings hashed are told
pub data Good (keepers : List (List ℕ)) (start : List ℕ → Keeper) (Told : List ℕ → Type 0) : List Beat → Type 0 where
  begun : Good keepers start Told []
  went : {who : List ℕ} {k : Keeper} {call : Call} {left : Keeper} {bytes area : List ℕ} {l : List Beat}
      → Gives who k call left bytes area
      → now start l who ≡ k
      → called who (events l) ≡ not (is_wake call)
      → sized call ≡ true
      → All (Honest keepers start (events l)) (claims_by k call)
      → All Told (hashed_by k call)
      → Good keepers start Told l
      → Good keepers start Told (turn who call left ∷ l)
  judged : {q : Question} {s signers : List ℕ} {l : List Beat}
      → (judging q s signers).number ≡ accepted
      → All (Honest keepers start (events l)) (listed (signer_count signers) (signer_claim q s signers))
      → Told (rack_string q.rack)
      → Good keepers start Told l
      → Good keepers start Told (verdict q s signers ∷ l)

either_way : (b : Bool) (x y u v : Keeper) → (b ≡ true → x ≡ u) → (b ≡ false → y ≡ v) → cond b x y ≡ cond b u v
either_way true x y u v f g = f refl
either_way false x y u v f g = g refl

ordered : (wakes before accepted fixed : Bool) → before ≡ not wakes → accepted ≡ true → fixed ≡ true
    → cond wakes (not before && accepted) (before && fixed) ≡ true
ordered true before accepted fixed p q r = λ i. not (p i) && q i
ordered false before accepted fixed p q r = λ i. p i && r i

module _ {keepers : List (List ℕ)} {start : List ℕ → Keeper} {Told : List ℕ → Type 0} where
  -- the records are those told
  pub kept_so : {l : List Beat} → Good keepers start Told l → (x : List ℕ) → keeper_after start (events l) x ≡ now start l x
  unfolding keeper_after
  kept_so begun x = refl
  kept_so (went {who = who} {call = call} {left = left} {l = l} g n c z h t r) x =
      either_way (same who x) (left_by x (keeper_after start (events l) x) call) (keeper_after start (events l) x) left (now start l x)
      (λ e.
      subst (λ (y : List ℕ). left_by y (keeper_after start (events l) y) call ≡ left) (same_is who x e)
      (ap (λ (y : Keeper). left_by who y call) (kept_so r who ∙ n) ∙ leaves_so g))
      (λ e. kept_so r x)
  kept_so (judged e h t r) x = kept_so r x

  module _ {who : List ℕ} {k : Keeper} {call : Call} {left : Keeper} {bytes area : List ℕ} {l : List Beat}
      (g : Gives who k call left bytes area) (n : now start l who ≡ k) (r : Good keepers start Told l) where
    accepted_there : accepts who (keeper_after start (events l) who) call ≡ true
    accepted_there = ap (λ (x : Keeper). accepts who x call) (kept_so r who ∙ n) ∙ accepts_so g

    claims_there : claims start (events l) (At who call) ≡ claims_by k call
    unfolding claims
    claims_there = λ i. cond (accepted_there i) (claims_by ((kept_so r who ∙ n) i) call) []

    hashed_there : hashed_at start (events l) (At who call) ≡ hashed_by k call
    unfolding hashed_at
    hashed_there = λ i. cond (accepted_there i) (hashed_by ((kept_so r who ∙ n) i) call) []

  pub order_so : {l : List Beat} → Good keepers start Told l → orderly start (events l) ≡ true
  unfolding orderly in_order
  order_so begun = refl
  order_so (went {who = who} {call = call} {l = l} g n c z h t r) =
      λ i.
      ordered (is_wake call) (called who (events l)) (accepts who (keeper_after start (events l) who) call) (sized call) c (accepted_there g n r) z i
      && order_so r i
  order_so (judged e h t r) = order_so r

  pub chip_so : {l : List Beat} → Good keepers start Told l → HonestChip keepers start (events l)
  unfolding claims
  chip_so begun = at_first
  chip_so (went g n c z h t r) = and_then (λ x m. all_of (subst (λ (y : List Claim). x ∈ y) (claims_there g n r) m) h) (chip_so r)
  chip_so (judged {q = q} {s = s} {signers = signers} e h t r) =
      and_then
      (λ x m.
      all_of
      (subst (λ (y : List Claim). x ∈ y)
      (ap (λ (n : ℕ). cond (eqb n accepted) (listed (signer_count signers) (signer_claim q s signers)) []) e) m)
      h)
      (chip_so r)

  pub told_so : {l : List Beat} {s : List ℕ} → Good keepers start Told l → Hashed start s (events l) → Told s
  unfolding hashed_at
  told_so {s = s} begun x3 = elim x3 [ ]
  told_so {s = s} (went g n c z h t r) (now_hashed m) = all_of (subst (λ (y : List (List ℕ)). s ∈ y) (hashed_there g n r) m) t
  told_so (went g n c z h t r) (before_hashed m) = told_so r m
  told_so {s = s} (judged {q = q} e h t r) (now_hashed m) =
      all_of {P = Told} (subst (λ (y : List (List ℕ)). s ∈ y) (ap (λ (n : ℕ). cond (eqb n accepted) (rack_string q.rack ∷ []) []) e) m) (and t none)
  told_so (judged e h t r) (before_hashed m) = told_so r m

-- both marks of a key on a statement
abbrev pub claim : List ℕ → List ℕ → Claim
claim who s = record { key = who; marks = 3; statement = s }

-- a statement was returned at a key
pub data Signed (start : List ℕ → Keeper) (who s : List ℕ) : List Beat → Type 0 where
  here : {call : Call} {left : Keeper} {l : List Beat} → for_signing who (now start l who) call ≡ s ∷ [] → Signed start who s (turn who call left ∷ l)
  before : {b : Beat} {l : List Beat} → Signed start who s l → Signed start who s (b ∷ l)

module _ {keepers : List (List ℕ)} {start : List ℕ → Keeper} {Told : List ℕ → Type 0} {who s : List ℕ} where
  returned : {l : List Beat} → Good keepers start Told l → Signed start who s l → Returned start who s (events l)
  returned begun x3 = elim x3 [ ]
  returned (went g n c z h t r) (here {call = call} e) =
      now_returned (subst (λ (y : List (List ℕ)). s ∈ y) (sym (ap (λ (x : Keeper). for_signing who x call) (kept_so r who) ∙ e)) at_front)
  returned (went g n c z h t r) (before m) = before_returned (returned r m)
  returned (judged e h t r) (before m) = before_returned (returned r m)

  -- so marks on it are honest
  pub honest : {l : List Beat} → who ∈ keepers → Good keepers start Told l → Signed start who s l → Honest keepers start (events l) (claim who s)
  honest m r e = record { attests = λ a. m; validates = λ v k. returned r e }
