-- An orderly history with an honest chip is told by its views. Assumes nothing.
use mathlib.Core.Path.{◌≡◌, sym, subst}
use mathlib.Core.Bool.{Bool, true, false, cond}
use mathlib.Core.List.{List, [], ◌∷◌}
use Prim.Native.Nat.{ℕ}
use native.Mathlib.Omega.{arith}
use borrow.Author.Tests.{eq-eqb, eqb-true}
use lib.ListN.{length}
use Rattle.refusals.specs.{accepted}
use Rattle.octets.proofs.RoundTrips.{and_left, and_right}
use Rattle.marks.specs.{attested, valid}
use Rattle.rack.specs.Racks.{rack_string}
use Rattle.statement.specs.Kinds.{digest_bytes, label_bytes}
use Rattle.statement.specs.Cut.{cut_statement}
use Rattle.desk.specs.Verdict.{Question, signer_count, judging}
use Rattle.safety.specs.Calls.{Keeper, Call, Wake, Initialise, New, Append, AppendMany, Read, AppendAndRead, Finalise, Activate, BytesToCheck, accepts, is_wake, sized}
use Rattle.safety.specs.Histories.{Event, At, Judged, keeper_after, in_order, orderly, ◌∈◌, at_front, listed}
use Rattle.safety.specs.Chip.{Claim, signer_claim, claims_by, claims, Honest, HonestChip, at_first, and_then}
use Rattle.safety.specs.Hashed.{hashed_by, hashed_at}
use Rattle.safety.proofs.Tales.{Said, SeenAs, Tale, begun, woken, acted, judged}
use Rattle.safety.proofs.Sizes.{Whole}
use Rattle.safety.proofs.Vows.{vowed}
use Rattle.safety.proofs.SeenInitialise.{seen_initialise}
use Rattle.safety.proofs.SeenNew.{seen_new}
use Rattle.safety.proofs.SeenAppend.{seen_append}
use Rattle.safety.proofs.SeenAppendMany.{seen_append_many}
use Rattle.safety.proofs.SeenRead.{seen_read, seen_append_and_read}
use Rattle.safety.proofs.SeenFinalise.{seen_finalise}
use Rattle.safety.proofs.SeenActivate.{seen_activate}
use Rattle.safety.proofs.SeenIdle.{seen_check}
use Rattle.safety.proofs.SeenVerdict.{seen_verdict}
use Rattle.safety.proofs.Kept.{wake_wakes, Comes, first, later, comes, whole_after}

module _ (keepers : List (List ℕ)) (start : List ℕ → Keeper) where
  -- all that marks claim in an event is true
  abbrev Fair : List Event → Event → Type 0
  Fair h e = (c : Claim) → c ∈ claims start h e → Honest keepers start h c

  module _ (h : List Event) where
    module _ (key : List ℕ) (call : Call) (e : accepts key (keeper_after start h key) call ≡ true) where
      -- an accepted call's strings are hashed
      hashed_there : (s : List ℕ) → s ∈ hashed_by (keeper_after start h key) call → s ∈ hashed_at start h (At key call)
      unfolding hashed_at
      hashed_there s m = subst (λ (b : Bool). s ∈ cond b (hashed_by (keeper_after start h key) call) []) (sym e) m

      -- and what its marks claim was said
      claimed_there :
          Fair h (At key call) → (c : Claim) → c ∈ claims_by (keeper_after start h key) call → attested c.marks ≡ true → valid c.marks ≡ true
          → Said start c.key (cut_statement c.statement) h
      unfolding claims
      claimed_there m c i = vowed (m c (subst (λ (b : Bool). c ∈ cond b (claims_by (keeper_after start h key) call) []) (sym e) i))

    module _ (q : Question) (s signers : List ℕ) (e : (judging q s signers).number ≡ accepted) where
      judged_hashed : rack_string q.rack ∈ hashed_at start h (Judged q s signers)
      unfolding hashed_at
      judged_hashed =
          subst (λ (b : Bool). rack_string q.rack ∈ cond b (rack_string q.rack ∷ []) []) (sym (eq-eqb (judging q s signers).number accepted e)) at_front

      judged_claimed :
          Fair h (Judged q s signers) → (c : Claim) → c ∈ listed (signer_count signers) (signer_claim q s signers) → attested c.marks ≡ true
          → valid c.marks ≡ true → Said start c.key (cut_statement c.statement) h
      unfolding claims
      judged_claimed m c i =
          vowed (m c (subst (λ (b : Bool). c ∈ cond b (listed (signer_count signers) (signer_claim q s signers)) [])
          (sym (eq-eqb (judging q s signers).number accepted e)) i))

    module _ (key : List ℕ) (whole : Whole (keeper_after start h key).head) where
      abbrev k : Keeper
      k = keeper_after start h key

      -- each call but Wake is one of the views
      seen : (call : Call) → is_wake call ≡ false → sized call ≡ true → Fair h (At key call) → SeenAs start h key call
      unfolding is_wake sized
      seen Wake e t m = let z : ◌≡◌ {A = Bool} true false = e in let y : ◌≡◌ {A = ℕ} 0 1 = cc in absurd (omega arith)
      seen (Initialise identity roll previous own area) e t m =
          seen_initialise _ _ key k identity roll previous own area (eqb-true (length identity) digest_bytes t)
      seen (New label area) e t m = seen_new _ _ key k label area whole (eqb-true (length label) label_bytes t)
      seen (Append label entry expected area) e t m = seen_append _ _ key k label entry expected area whole (eqb-true (length label) label_bytes t)
      seen (AppendMany label list expected area) e t m = seen_append_many _ _ key k label list expected area whole (eqb-true (length label) label_bytes t)
      seen (Read label nonce area) e t m = seen_read _ _ key k whole label (eqb-true (length label) label_bytes t) nonce area
      seen (AppendAndRead label entry expected nonce area) e t m =
          seen_append_and_read _ _ key k whole label (eqb-true (length label) label_bytes t) entry expected nonce area
      seen (Finalise next area) e t m = seen_finalise _ _ key k next area whole (hashed_there key (Finalise next area))
      seen (Activate previous own bundle) e t m =
          seen_activate _ _ key k previous own bundle whole (hashed_there key (Activate previous own bundle))
          (λ a. claimed_there key (Activate previous own bundle) a m)
      seen (BytesToCheck previous own bundle list entry area) e t m = seen_check _ _ key k previous own bundle list entry area

  told : (key : List ℕ) (call : Call) (h : List Event) → Comes start h key call → Fair h (At key call) → orderly start h ≡ true → Tale start h
      → Tale start (At key call ∷ h)
  told key call h (first w c a) m o earlier = woken c (wake_wakes key (keeper_after start h key) call w a) earlier
  told key call h (later w c s) m o earlier = acted c (seen h key (whole_after start h o key c) call w s m) earlier

  -- an orderly history with an honest chip
  pub lawful_tale : (h : List Event) → orderly start h ≡ true → HonestChip keepers start h → Tale start h
  unfolding orderly
  lawful_tale [] o at_first = begun
  lawful_tale (At key call ∷ h) o (and_then m l) =
      let before = and_right (in_order start h (At key call)) (orderly start h) o in
      told key call h (comes start h key call (and_left (in_order start h (At key call)) (orderly start h) o)) m before (lawful_tale h before l)
  lawful_tale (Judged q s signers ∷ h) o (and_then m l) =
      judged
      (λ e. seen_verdict q s signers (λ t. t ∈ hashed_at start h (Judged q s signers)) (λ key v. Said start key v h) (judged_hashed h q s signers e)
      (judged_claimed h q s signers e m) e)
      (lawful_tale h (and_right (in_order start h (Judged q s signers)) (orderly start h) o) l)
