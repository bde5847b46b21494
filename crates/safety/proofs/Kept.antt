-- A keeper's sizes along a lawful history: set by its Wake, and kept by every call. Assumes nothing.
use mathlib.Core.Path.{◌≡◌, refl, sym, ap, subst, ◌∙◌}
use mathlib.Core.Bool.{Bool, true, false, not, cond, ◌||◌}
use mathlib.Core.List.{List, [], ◌∷◌, map}
use Prim.Native.Nat.{ℕ}
use native.Mathlib.Omega.{arith}
use borrow.Author.Tests.{eqb-true, ne_eqb}
use lib.ListN.{length, replicate}
use lib.Dec.{eqb}
use Rattle.refusals.specs.{accepted}
use Rattle.octets.specs.Strings.{same}
use Rattle.octets.proofs.RoundTrips.{and_left, and_right, same_is}
use Rattle.roll.specs.Roll.{roll_layout}
use Rattle.statement.specs.Kinds.{digest_bytes}
use Rattle.statement.specs.Cut.{cut_statement}
use Rattle.rules.specs.declared.Head.{Head}
use Rattle.rules.specs.Record.{finalised}
use Rattle.rules.specs.Outcomes.{Outcome, refused, given, again, unless}
use Rattle.rules.specs.Wake.{woken, waking}
use Rattle.rules.specs.Initialise.{absent, founded, preparing, entered, initialising}
use Rattle.rules.specs.New.{making}
use Rattle.rules.specs.Append.{appending}
use Rattle.rules.specs.AppendMany.{appending_many}
use Rattle.rules.specs.Read.{reading, appending_and_reading}
use Rattle.rules.specs.Finalise.{last_words, handed_over, finalise_refusal, leaving, finalising}
use Rattle.rules.specs.Activate.{activating}
use Rattle.rules.specs.Check.{checking}
use Rattle.rules.proofs.Refused.{Ends, stopped, went, ends}
use Rattle.safety.specs.Calls.{Keeper, Call, Wake, Initialise, New, Append, AppendMany, Read, AppendAndRead, Finalise, Activate, BytesToCheck}
use Rattle.safety.specs.Calls.{lent, outcome_of, left_by, accepts, statements_in, is_wake, sized}
use Rattle.safety.specs.Histories.{Event, At, Judged, keeper_after, called, in_order, orderly}
use Rattle.safety.proofs.Views.{Waking}
use Rattle.safety.proofs.Tales.{says}
use Rattle.safety.proofs.Ended.{Gives, gives}
use Rattle.safety.proofs.Sizes.{Whole}
use Rattle.safety.proofs.SeenInitialise.{founded_whole, preparing_whole}

-- an accepted Wake
module _ (key : List ℕ) (k : Keeper) where
  refused_not : (n height : ℕ) → (n ≡ accepted → ⊥) → outcome_of key k Wake ≡ refused n height (lent k []) → accepts key k Wake ≡ true → ⊥
  unfolding accepts refused
  refused_not n height refuses o e =
      let t : eqb (outcome_of key k Wake).answer.number accepted ≡ false = ap (λ (o : Outcome). eqb o.answer.number accepted) o ∙ ne_eqb n accepted refuses in
      let z : ◌≡◌ {A = Bool} false true = sym t ∙ e in let y : ◌≡◌ {A = ℕ} 0 1 = cc in omega arith

  woke : accepts key k Wake ≡ true → Gives key k Wake [] (woken key) (replicate (length k.table) 0) []
  unfolding outcome_of waking
  woke e = go (ends _ 0 (lent k []) (given [] (woken key) (replicate (length k.table) 0) []))
    where
      go : {n : ℕ} → Ends n 0 (lent k []) (given [] (woken key) (replicate (length k.table) 0) []) (outcome_of key k Wake) → Gives key k Wake [] (woken key) (replicate (length k.table) 0) []
      go {n} (stopped refuses o) = absurd (refused_not n 0 refuses o e)
      go (went t o) = gives key k Wake [] (woken key) (replicate (length k.table) 0) [] o

  woken_whole : Whole (woken key)
  woken_whole = record { identity = refl; own = refl; previous = refl }

  pub wakes : accepts key k Wake ≡ true → Waking (left_by key k Wake) (says key k Wake)
  unfolding statements_in
  wakes e = let g = woke e in record { is = ap (λ (x : Keeper). x.head.status) g.leaves; says = ap (map cut_statement) g.signs }

  pub wakes_whole : accepts key k Wake ≡ true → Whole (left_by key k Wake).head
  wakes_whole e = subst (λ (x : Keeper). Whole x.head) (sym (woke e).leaves) woken_whole

-- every call keeps the sizes
module _ (key : List ℕ) (k : Keeper) (whole : Whole k.head) where
  keeps_unless :
      (call : Call) (n height : ℕ) (area : List ℕ) (effect : Outcome) → Whole effect.left.head → outcome_of key k call ≡ unless n height (lent k area) effect
      → Whole (outcome_of key k call).left.head
  unfolding refused
  keeps_unless call n height area effect w e = go (ends n height (lent k area) effect)
    where
      go : Ends n height (lent k area) effect (unless n height (lent k area) effect) → Whole (outcome_of key k call).left.head
      go (stopped refuses o) = subst (λ (x : Outcome). Whole x.left.head) (sym (e ∙ o)) whole
      go (went t o) = subst (λ (x : Outcome). Whole x.left.head) (sym (e ∙ o)) w

  -- a head with the same identity and racks
  same_whole : (h : Head) → h.identity ≡ k.head.identity → h.own ≡ k.head.own → h.previous ≡ k.head.previous → Whole h
  same_whole h i o p =
      record { identity = ap length i ∙ whole.identity; own = ap length o ∙ whole.own; previous = ap length p ∙ whole.previous }

  entered_whole :
      (identity roll previous own area : List ℕ) (b : Bool) → length identity ≡ digest_bytes
      → Whole (cond b (entered (lent k area) (founded k.head own) k.table)
      (entered (lent k area) (preparing k.head identity (roll_layout.cut roll).count previous own) (roll_layout.cut roll).rows)).left.head
  unfolding entered given
  entered_whole identity roll previous own area true sized = founded_whole k.head own
  entered_whole identity roll previous own area false sized = preparing_whole k.head own identity (roll_layout.cut roll).count previous sized

  leaving-whole : (next area : List ℕ) → Whole (leaving (lent k area) next).left.head
  unfolding leaving given refused
  leaving-whole next area = go (ends (finalise_refusal (lent k area) next) 0 (lent k area) _)
    where
      go :
          {o : Outcome}
          → Ends (finalise_refusal (lent k area) next) 0 (lent k area) (given (last_words (handed_over k.head next) k.table) (handed_over k.head next) k.table area) o
          → Whole o.left.head
      go (stopped refuses e) = subst (λ (x : Outcome). Whole x.left.head) (sym e) whole
      go (went t e) = subst (λ (x : Outcome). Whole x.left.head) (sym e) (same_whole (handed_over k.head next) refl refl refl)

  ended_whole :
      (next area : List ℕ) (b : Bool) → Whole (cond b (again (last_words k.head k.table) (lent k area)) (leaving (lent k area) next)).left.head
  unfolding again
  ended_whole next area true = whole
  ended_whole next area false = leaving-whole next area

  keeps_outcome : (call : Call) → is_wake call ≡ false → sized call ≡ true → Whole (outcome_of key k call).left.head
  unfolding outcome_of initialising making appending appending_many reading appending_and_reading finalising activating checking given is_wake sized
  keeps_outcome Wake e t = let z : ◌≡◌ {A = Bool} true false = e in let y : ◌≡◌ {A = ℕ} 0 1 = cc in absurd (omega arith)
  keeps_outcome (Initialise identity roll previous own area) e t =
      keeps_unless (Initialise identity roll previous own area) _ 0 area _ (entered_whole identity roll previous own area (absent roll) (eqb-true (length identity) digest_bytes t)) refl
  keeps_outcome (New label area) e t = keeps_unless (New label area) _ 0 area _ (same_whole _ refl refl refl) refl
  keeps_outcome (Append label entry expected area) e t = keeps_unless (Append label entry expected area) _ _ area _ whole refl
  keeps_outcome (AppendMany label list expected area) e t = keeps_unless (AppendMany label list expected area) _ _ area _ whole refl
  keeps_outcome (Read label nonce area) e t = keeps_unless (Read label nonce area) _ 0 area _ whole refl
  keeps_outcome (AppendAndRead label entry expected nonce area) e t = keeps_unless (AppendAndRead label entry expected nonce area) _ _ area _ whole refl
  keeps_outcome (Finalise next area) e t = keeps_unless (Finalise next area) _ 0 area _ (ended_whole next area (eqb k.head.status finalised)) refl
  keeps_outcome (Activate previous own bundle) e t = keeps_unless (Activate previous own bundle) _ 0 [] _ (same_whole _ refl refl refl) refl
  keeps_outcome (BytesToCheck previous own bundle list entry area) e t = keeps_unless (BytesToCheck previous own bundle list entry area) _ 0 area _ whole refl

  pub keeps_whole : (call : Call) → is_wake call ≡ false → sized call ≡ true → Whole (left_by key k call).head
  unfolding left_by
  keeps_whole call e t = keeps_outcome call e t

-- Wake is the one call that is a wake
pub only_wake : (call : Call) → is_wake call ≡ true → call ≡ Wake
unfolding is_wake
only_wake Wake e = refl
only_wake (Initialise identity roll previous own area) e = let z : ◌≡◌ {A = Bool} false true = e in cc
only_wake (New label area) e = let z : ◌≡◌ {A = Bool} false true = e in cc
only_wake (Append label entry expected area) e = let z : ◌≡◌ {A = Bool} false true = e in cc
only_wake (AppendMany label list expected area) e = let z : ◌≡◌ {A = Bool} false true = e in cc
only_wake (Read label nonce area) e = let z : ◌≡◌ {A = Bool} false true = e in cc
only_wake (AppendAndRead label entry expected nonce area) e = let z : ◌≡◌ {A = Bool} false true = e in cc
only_wake (Finalise next area) e = let z : ◌≡◌ {A = Bool} false true = e in cc
only_wake (Activate previous own bundle) e = let z : ◌≡◌ {A = Bool} false true = e in cc
only_wake (BytesToCheck previous own bundle list entry area) e = let z : ◌≡◌ {A = Bool} false true = e in cc

pub wake_whole : (key : List ℕ) (k : Keeper) (call : Call) → is_wake call ≡ true → accepts key k call ≡ true → Whole (left_by key k call).head
wake_whole key k call w =
    subst (λ (c : Call). accepts key k c ≡ true → Whole (left_by key k c).head) (sym (only_wake call w)) (wakes_whole key k)

pub wake_wakes : (key : List ℕ) (k : Keeper) (call : Call) → is_wake call ≡ true → accepts key k call ≡ true → Waking (left_by key k call) (says key k call)
wake_wakes key k call w =
    subst (λ (c : Call). accepts key k c ≡ true → Waking (left_by key k c) (says key k c)) (sym (only_wake call w)) (wakes key k)

-- a call that is in order: a first Wake, or another call of a keeper that was woken
pub data Comes (start : List ℕ → Keeper) (h : List Event) (key : List ℕ) (call : Call) : Type 0 where
  first : is_wake call ≡ true → called key h ≡ false → accepts key (keeper_after start h key) call ≡ true → Comes start h key call
  later : is_wake call ≡ false → called key h ≡ true → sized call ≡ true → Comes start h key call

is_not : (b : Bool) → not b ≡ true → b ≡ false
is_not false e = refl
is_not true e = sym e

either : {P : Type 0} (w a b : Bool) → cond w a b ≡ true → (w ≡ true → a ≡ true → P) → (w ≡ false → b ≡ true → P) → P
either true a b e p q = p refl e
either false a b e p q = q refl e

module _ (start : List ℕ → Keeper) where
  pub comes : (h : List Event) (key : List ℕ) (call : Call) → in_order start h (At key call) ≡ true → Comes start h key call
  unfolding in_order
  comes h key call e =
      either (is_wake call) _ _ e
      (λ w t. first w (is_not (called key h) (and_left _ _ t)) (and_right (not (called key h)) _ t))
      (λ w t. later w (and_left _ _ t) (and_right (called key h) _ t))

  -- so a keeper that was called has its sizes
  whole_then :
      (h : List Event) (key : List ℕ) (call : Call) → (called key h ≡ true → Whole (keeper_after start h key).head) → Comes start h key call
      → Whole (left_by key (keeper_after start h key) call).head
  whole_then h key call earlier (first w c a) = wake_whole key (keeper_after start h key) call w a
  whole_then h key call earlier (later w c s) = keeps_whole key (keeper_after start h key) (earlier c) call w s

  pub whole_after : (h : List Event) → orderly start h ≡ true → (key : List ℕ) → called key h ≡ true → Whole (keeper_after start h key).head
  unfolding called keeper_after orderly
  whole_after [] o key c = let z : ◌≡◌ {A = Bool} false true = c in let y : ◌≡◌ {A = ℕ} 0 1 = cc in absurd (omega arith)
  whole_after (At other call ∷ h) o key c = go (same other key) refl (whole_after h (and_right (in_order start h (At other call)) (orderly start h) o) key) c
    where
      go : (b : Bool) → same other key ≡ b → (called key h ≡ true → Whole (keeper_after start h key).head) → (b || called key h) ≡ true
          → Whole (cond b (left_by key (keeper_after start h key) call) (keeper_after start h key)).head
      go true e earlier c =
          whole_then h key call earlier
          (comes h key call (subst (λ (x : List ℕ). in_order start h (At x call) ≡ true) (same_is other key e)
          (and_left (in_order start h (At other call)) (orderly start h) o)))
      go false e earlier c = earlier c
  whole_after (Judged q s signers ∷ h) o key c = whole_after h (and_right (in_order start h (Judged q s signers)) (orderly start h) o) key c
