-- One rack has one heir, so of two lines of handovers from one founding rack one goes on from the other. Assumes nothing.
use mathlib.Core.Path.{◌≡◌, refl, sym, subst, subst₃, ◌∙◌}
use mathlib.Core.List.{List, ◌∷◌}
use Prim.Native.Nat.{ℕ}
use Rattle.hash.specs.Sha256.{sha256}
use Rattle.rack.specs.Racks.{rack_string, rack_digest}
use Rattle.rows.specs.Digests.{roll_digest}
use Rattle.roll.specs.Roll.{Roll}
use Rattle.statement.specs.declared.Statement.{Statement}
use Rattle.statement.specs.Cut.{no_digest}
use Rattle.safety.specs.Calls.{Keeper}
use Rattle.safety.specs.Histories.{Event, keeper_after}
use Rattle.safety.specs.Hashed.{Hashed, ToldApart}
use Rattle.safety.proofs.Views.{roll_in, string_of, Grows, Receipt, enter_of, leave_of, roll_name}
use Rattle.safety.proofs.Tales.{Said}
use Rattle.safety.proofs.Quorums.{shared_of}
use Rattle.safety.proofs.Offices.{Handover, Line, from_there, by_handover, Live, Past, Heritage, from_first, inherited, Office, said_called}
use Rattle.safety.proofs.Turns.{Left, left_stands, Entered, entered_stands}

tail_same : (x : ℕ) (a b : List ℕ) → x ∷ a ≡ x ∷ b → a ≡ b
tail_same x a b e = cc

roll_named : (v : Roll) → roll_name v ≡ sha256 (string_of v)
unfolding roll_digest
roll_named v = refl

-- strings hashed in a history are told apart by their digests
module _ {start : List ℕ → Keeper} {h : List Event} (apart : ToldApart start h) where
  -- racks with one digest are one rack
  pub rack_same : (digest a b : List ℕ) → digest ≡ rack_digest a → digest ≡ rack_digest b → Hashed start (rack_string a) h → Hashed start (rack_string b) h → a ≡ b
  unfolding rack_digest
  rack_same digest a b p q s t = tail_same _ a b (apart.apart (rack_string a) (rack_string b) s t (sym p ∙ q))

  -- rolls with one name are one string
  pub roll_same : (v w : Roll) → roll_name v ≡ roll_name w → Hashed start (string_of v) h → Hashed start (string_of w) h → string_of v ≡ string_of w
  roll_same v w p s t = apart.apart (string_of v) (string_of w) s t (sym (roll_named v) ∙ p ∙ roll_named w)

  -- no rack's digest is zeros
  pub rack_not_zeros : (digest a : List ℕ) → digest ≡ rack_digest a → Hashed start (rack_string a) h → digest ≡ no_digest → ⊥
  unfolding rack_digest
  rack_not_zeros digest a p s z = apart.not_zeros (rack_string a) s (sym p ∙ z)

-- a keeper that entered and is in office knows its handover
pub record Inheritance (start : List ℕ → Keeper) (h : List Event) (key : List ℕ) (k : Keeper) (identity previous own : List ℕ) : Type 0 where
  pub roll : Roll
  pub handover : Handover start h identity previous own roll
  pub grew : Grows roll (roll_in k)
  pub past : (w : Statement) → Said start key w h → Receipt w.kind → Past roll w

inherits : {start : List ℕ → Keeper} {h : List Event} {key : List ℕ} {k : Keeper} {identity previous own : List ℕ}
    → (previous ≡ no_digest → ⊥) → Entered k identity previous own → Heritage start h key k → Inheritance start h key k identity previous own
inherits z d (from_first p) = absurd (z (d.previous_is ∙ p))
inherits {start} {h} z d (inherited roll g grew past) =
    record {
      roll = roll;
      handover = subst₃ (λ a b c. Handover start h a b c roll) (sym d.identity_is) (sym d.previous_is) (sym d.own_is) g;
      grew = grew;
      past = past;
    }

pub left_by_said : {start : List ℕ → Keeper} {h : List Event} (all : (key : List ℕ) → Office start h key (keeper_after start h key))
    (key : List ℕ) {identity own next roll : List ℕ} → Said start key (leave_of identity own next roll) h
    → Left start h (keeper_after start h key) identity own next roll
left_by_said all key s = left_stands ((all key).stands _ s)

module _ {start : List ℕ → Keeper} {h : List Event} (all : (key : List ℕ) → Office start h key (keeper_after start h key)) (apart : ToldApart start h) where
  pub inheritance : (key : List ℕ) {identity previous own : List ℕ} {roll : Roll} → Handover start h identity previous own roll
      → Said start key (enter_of identity previous own (roll_name roll)) h → Live (keeper_after start h key)
      → Inheritance start h key (keeper_after start h key) identity previous own
  inheritance key {previous = previous} g s l =
      inherits (rack_not_zeros apart previous g.old g.old_is g.old_hashed) (entered_stands ((all key).stands _ s))
      ((all key).heritage (said_called s) l)

  pub one_heir : {identity other previous own own' : List ℕ} {r r' : Roll}
      → Handover start h identity previous own r → Handover start h other previous own' r' → own ≡ own'
  one_heir {previous = previous} g g' =
      let e = rack_same apart previous g.old g'.old g.old_is g'.old_is g.old_hashed g'.old_hashed in
      let z = shared_of e g.handed g'.handed in
      (left_by_said all z.key z.left.said).next_is ∙ sym (left_by_said all z.key z.right.said).next_is

-- a line's first step
data First (start : List ℕ → Keeper) (h : List Event) (identity first own : List ℕ) : Type 0 where
  no_step : own ≡ first → First start h identity first own
  a_step : (second : List ℕ) (roll : Roll) → Handover start h identity first second roll → Line start h identity second own → First start h identity first own

module _ {start : List ℕ → Keeper} {h : List Event} {identity first : List ℕ} where
  step_on : {previous own : List ℕ} {roll : Roll} → First start h identity first previous → Handover start h identity previous own roll → First start h identity first own
  step_on {own = own} {roll = roll} (no_step p) g = a_step own roll (subst (λ (x : List ℕ). Handover start h identity x own roll) p g) from_there
  step_on {roll = roll} (a_step second r k l) g = a_step second r k (by_handover roll l g)

  first_step : {own : List ℕ} → Line start h identity first own → First start h identity first own
  first_step from_there = no_step refl
  first_step (by_handover roll l g) = step_on (first_step l) g

-- one line goes on from the other
pub data Ordered (start : List ℕ → Keeper) (h : List Event) (identity a b : List ℕ) : Type 0 where
  goes_on : Line start h identity a b → Ordered start h identity a b
  goes_back : Line start h identity b a → Ordered start h identity a b

module _ {start : List ℕ → Keeper} {h : List Event} (all : (key : List ℕ) → Office start h key (keeper_after start h key)) (apart : ToldApart start h) where
  past_step : {identity a previous own : List ℕ} {roll : Roll} → Handover start h identity previous own roll → First start h identity previous a → Ordered start h identity a own
  past_step {identity} {a} {previous} {own} {roll} g (no_step p) =
      goes_on (by_handover roll (subst (λ (x : List ℕ). Line start h identity a x) p from_there) g)
  past_step {identity} {a} {previous} {own} {roll} g (a_step second r k l) =
      goes_back (subst (λ (x : List ℕ). Line start h identity x a) (one_heir all apart k g) l)

  one_more : {identity a previous own : List ℕ} {roll : Roll} → Handover start h identity previous own roll → Ordered start h identity a previous → Ordered start h identity a own
  one_more {roll = roll} g (goes_on l) = goes_on (by_handover roll l g)
  one_more g (goes_back l) = past_step g (first_step l)

  pub ordered : {identity first a b : List ℕ} → Line start h identity first a → Line start h identity first b → Ordered start h identity a b
  ordered l from_there = goes_back l
  ordered l (by_handover roll m g) = one_more g (ordered l m)
