-- The premises of demand 3 over exported calls are those over the flat records, both ways. Assumes nothing.
use mathlib.Core.Path.{◌≡◌, refl, sym, ap, ap₂, subst, ◌∙◌}
use mathlib.Core.Bool.{Bool, true, not, cond, ◌&&◌}
use mathlib.Core.List.{List, [], ◌∷◌}
use Prim.Native.Nat.{ℕ}
use Rattle.safety.specs.Calls.{Keeper, Call, is_wake, sized}
use Rattle.safety.specs.Calls as rules
use Rattle.safety.specs.Histories.{Event, At, Judged, keeper_after, called, ◌∈◌}
use Rattle.safety.specs.Histories as flatly
use Rattle.safety.specs.Chip.{Claim, claims_by}
use Rattle.safety.specs.Chip as chip
use Rattle.safety.specs.Hashed.{hashed_by}
use Rattle.safety.specs.Hashed as hash
use Rattle.exported.specs.Types.{are_rows, handed_bytes}
use Rattle.exported.specs.Calls.{Box, accepts, for_signing, flat}
use Rattle.exported.specs.Histories.{box_after, in_order, orderly, Returned, now_returned, before_returned}
use Rattle.exported.specs.Chip.{claims, Honest, HonestChip, at_first, and_then}
use Rattle.exported.specs.Hashed.{hashed_at, Hashed, now_hashed, before_hashed, ToldApart}
use Rattle.exported.proofs.CallsFlat.{accepts-flat, signing_flat}
use Rattle.exported.proofs.Standing.{before, flat_start, stands}

module _ (start : List ℕ → Box) (rows : (key : List ℕ) → are_rows (start key).rows ≡ true) where
  abbrev fs : List ℕ → Keeper
  fs = flat_start start

  module _ (h : List Event) (bytes : handed_bytes h ≡ true) where
    at_key : (key : List ℕ) → keeper_after fs h key ≡ flat (box_after start h key)
    at_key key = sym (stands start rows h bytes key).0

    accepts_is : (key : List ℕ) (call : Call) → rules.accepts key (keeper_after fs h key) call ≡ accepts key (box_after start h key) call
    accepts_is key call = ap (λ (k : Keeper). rules.accepts key k call) (at_key key) ∙ accepts-flat key (box_after start h key) call

    signing_is : (key : List ℕ) (call : Call) → rules.for_signing key (keeper_after fs h key) call ≡ for_signing key (box_after start h key) call
    signing_is key call = ap (λ (k : Keeper). rules.for_signing key k call) (at_key key) ∙ signing_flat key (box_after start h key) call

    order_is : (e : Event) → flatly.in_order fs h e ≡ in_order start h e
    unfolding flatly.in_order in_order
    order_is (At key call) =
        ap (λ (b : Bool). cond (is_wake call) (not (called key h) && b) (called key h && sized call)) (accepts_is key call)
    order_is (Judged q s signers) = refl

    claims_is : (e : Event) → chip.claims fs h e ≡ claims start h e
    unfolding chip.claims claims
    claims_is (At key call) =
        ap₂ (λ (b : Bool) (k : Keeper). cond b (claims_by k call) []) (accepts_is key call) (at_key key)
    claims_is (Judged q s signers) = refl

    hashed_is : (e : Event) → hash.hashed_at fs h e ≡ hashed_at start h e
    unfolding hash.hashed_at hashed_at
    hashed_is (At key call) =
        ap₂ (λ (b : Bool) (k : Keeper). cond b (hashed_by k call) []) (accepts_is key call) (at_key key)
    hashed_is (Judged q s signers) = refl

  pub orderly_is : (h : List Event) → handed_bytes h ≡ true → flatly.orderly fs h ≡ orderly start h
  unfolding flatly.orderly orderly
  orderly_is [] bytes = refl
  orderly_is (e ∷ h) bytes = ap₂ (λ (a b : Bool). a && b) (order_is h (before e h bytes) e) (orderly_is h (before e h bytes))

  returned : {key s : List ℕ} {h : List Event} → handed_bytes h ≡ true → Returned start key s h → flatly.Returned fs key s h
  returned {key} {s} bytes (now_returned {call} {h} m) =
      flatly.now_returned (subst (λ (l : List (List ℕ)). s ∈ l) (sym (signing_is h (before (At key call) h bytes) key call)) m)
  returned bytes (before_returned {e} {h} r) = flatly.before_returned (returned (before e h bytes) r)

  returned_back : {key s : List ℕ} {h : List Event} → handed_bytes h ≡ true → flatly.Returned fs key s h → Returned start key s h
  returned_back {key} {s} bytes (flatly.now_returned {call} {h} m) =
      now_returned (subst (λ (l : List (List ℕ)). s ∈ l) (signing_is h (before (At key call) h bytes) key call) m)
  returned_back bytes (flatly.before_returned {e} {h} r) = before_returned (returned_back (before e h bytes) r)

  hashed : {s : List ℕ} {h : List Event} → handed_bytes h ≡ true → hash.Hashed fs s h → Hashed start s h
  hashed {s} bytes (hash.now_hashed {e} {h} m) =
      now_hashed (subst (λ (l : List (List ℕ)). s ∈ l) (hashed_is h (before e h bytes) e) m)
  hashed bytes (hash.before_hashed {e} {h} r) = before_hashed (hashed (before e h bytes) r)

  hashed_back : {s : List ℕ} {h : List Event} → handed_bytes h ≡ true → Hashed start s h → hash.Hashed fs s h
  hashed_back {s} bytes (now_hashed {e} {h} m) =
      hash.now_hashed (subst (λ (l : List (List ℕ)). s ∈ l) (sym (hashed_is h (before e h bytes) e)) m)
  hashed_back bytes (before_hashed {e} {h} r) = hash.before_hashed (hashed_back (before e h bytes) r)

  pub apart_is : (h : List Event) → handed_bytes h ≡ true → ToldApart start h → hash.ToldApart fs h
  apart_is h bytes told =
      record {
        apart = λ s t p q. told.apart s t (hashed bytes p) (hashed bytes q);
        not_zeros = λ s p. told.not_zeros s (hashed bytes p);
      }

  pub apart_back : (h : List Event) → handed_bytes h ≡ true → hash.ToldApart fs h → ToldApart start h
  apart_back h bytes told =
      record {
        apart = λ s t p q. told.apart s t (hashed_back bytes p) (hashed_back bytes q);
        not_zeros = λ s p. told.not_zeros s (hashed_back bytes p);
      }

  module _ (keepers : List (List ℕ)) where
    honest : {h : List Event} {c : Claim} → handed_bytes h ≡ true → Honest keepers start h c → chip.Honest keepers fs h c
    honest bytes o = record { attests = o.attests; validates = λ v k. returned bytes (o.validates v k) }

    pub chip_is : {h : List Event} → handed_bytes h ≡ true → HonestChip keepers start h → chip.HonestChip keepers fs h
    chip_is bytes at_first = chip.at_first
    chip_is bytes (and_then {e} {h} all earlier) =
        chip.and_then
        (λ c m. honest (before e h bytes) (all c (subst (λ (l : List Claim). c ∈ l) (claims_is h (before e h bytes) e) m)))
        (chip_is (before e h bytes) earlier)

    honest_back : {h : List Event} {c : Claim} → handed_bytes h ≡ true → chip.Honest keepers fs h c → Honest keepers start h c
    honest_back bytes o = record { attests = o.attests; validates = λ v k. returned_back bytes (o.validates v k) }

    pub chip_back : {h : List Event} → handed_bytes h ≡ true → chip.HonestChip keepers fs h → HonestChip keepers start h
    chip_back bytes chip.at_first = at_first
    chip_back bytes (chip.and_then {e} {h} all earlier) =
        and_then
        (λ c m. honest_back (before e h bytes) (all c (subst (λ (l : List Claim). c ∈ l) (sym (claims_is h (before e h bytes) e)) m)))
        (chip_back (before e h bytes) earlier)
