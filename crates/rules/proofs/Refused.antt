-- A refused call: it says its number and leaves all that it was lent. 01: "A refusal returns its number (11 also the height) and changes nothing lent." Assumes nothing.
use mathlib.Core.Path.{◌≡◌, refl, sym, ap, ◌∙◌}
use mathlib.Core.Bool.{Bool, true, false, cond}
use mathlib.Core.List.{List}
use Prim.Native.Nat.{ℕ}
use borrow.Author.Tests.{eqb-true, eqb-false}
use lib.Dec.{eqb}
use Rattle.refusals.specs.{accepted, out_of_order}
use Rattle.rules.specs.declared.Head.{Head}
use Rattle.rules.specs.Record.{finalised}
use Rattle.rules.specs.Outcomes.{Lent, Outcome, refused, given, again, unless}
use Rattle.rules.specs.Wake.{waking}
use Rattle.rules.specs.Initialise.{absent, entered, initialising}
use Rattle.rules.specs.New.{making}
use Rattle.rules.specs.Append.{appending}
use Rattle.rules.specs.AppendMany.{appending_many}
use Rattle.rules.specs.Read.{reading, appending_and_reading}
use Rattle.rules.specs.Finalise.{leaving, finalising}
use Rattle.rules.specs.Activate.{activating}
use Rattle.rules.specs.Check.{checking}

-- a rule's outcome: the refusal, or the effect
pub data Ends (n height : ℕ) (k : Lent) (effect o : Outcome) : Type 0 where
  stopped : (n ≡ accepted → ⊥) → o ≡ refused n height k → Ends n height k effect o
  went : n ≡ accepted → o ≡ effect → Ends n height k effect o

module _ (n height : ℕ) (k : Lent) where
  pub ends : (effect : Outcome) → Ends n height k effect (unless n height k effect)
  unfolding unless
  ends effect = go (eqb n accepted) refl
    where
      go : (b : Bool) → eqb n accepted ≡ b → Ends n height k effect (cond b effect (refused n height k))
      go true e = went (eqb-true n accepted e) refl
      go false e = stopped (eqb-false n accepted e) refl

  pub refused_leaves : (refused n height k).left ≡ k
  unfolding refused
  refused_leaves = refl

  pub refused_says : (refused n height k).answer.number ≡ n
  unfolding refused
  refused_says = refl

-- a rule with one effect says the number that its tests come to
pub unless_says : (n height : ℕ) (k : Lent) (bytes : List ℕ) (head : Head) (table area : List ℕ) → (unless n height k (given bytes head table area)).answer.number ≡ n
unfolding given
unless_says n height k bytes head table area = go (ends n height k (given bytes head table area))
  where
    go : Ends n height k (given bytes head table area) (unless n height k (given bytes head table area)) → (unless n height k (given bytes head table area)).answer.number ≡ n
    go (stopped some e) = ap (λ (o : Outcome). o.answer.number) e ∙ refused_says n height k
    go (went none e) = ap (λ (o : Outcome). o.answer.number) e ∙ sym none

pub out_of_order_tells : (height : ℕ) (k : Lent) → (refused out_of_order height k).answer.height ≡ height
unfolding refused
out_of_order_tells height k = refl

-- an outcome that is no acceptance leaves what was lent
abbrev pub Spares : Lent → Outcome → Type 0
Spares k o = (o.answer.number ≡ accepted → ⊥) → o.left ≡ k

module _ (k : Lent) where
  unless-spares : (n height : ℕ) (effect : Outcome) → Spares k effect → Spares k (unless n height k effect)
  unless-spares n height effect spares refuses = go (ends n height k effect)
    where
      go : Ends n height k effect (unless n height k effect) → (unless n height k effect).left ≡ k
      go (stopped some e) = ap (λ (o : Outcome). o.left) e ∙ refused_leaves n height k
      go (went none e) =
          ap (λ (o : Outcome). o.left) e ∙ spares (λ z. refuses (ap (λ (o : Outcome). o.answer.number) e ∙ z))

  given_spares : (bytes : List ℕ) (head : Head) (table area : List ℕ) → Spares k (given bytes head table area)
  unfolding given
  given_spares bytes head table area refuses = absurd (refuses refl)

  does_spares :
      (n height : ℕ) (bytes : List ℕ) (head : Head) (table area : List ℕ) → Spares k (unless n height k (given bytes head table area))
  does_spares n height bytes head table area = unless-spares n height _ (given_spares bytes head table area)

  again_spares : (bytes : List ℕ) → Spares k (again bytes k)
  unfolding again
  again_spares bytes refuses = absurd (refuses refl)

  either_spares : (b : Bool) (o q : Outcome) → Spares k o → Spares k q → Spares k (cond b o q)
  either_spares true o q s t = s
  either_spares false o q s t = t

  pub waking_spares : (key : List ℕ) → Spares k (waking k key)
  unfolding waking
  waking_spares key = does_spares _ 0 _ _ _ _

  pub initialising_spares : (identity roll previous own : List ℕ) → Spares k (initialising k identity roll previous own)
  unfolding initialising entered
  initialising_spares identity roll previous own =
      unless-spares _ 0 _ (either_spares (absent roll) _ _ (given_spares _ _ _ _) (given_spares _ _ _ _))

  pub making_spares : (label : List ℕ) → Spares k (making k label)
  unfolding making
  making_spares label = does_spares _ 0 _ _ _ _

  pub appending_spares : (label entry : List ℕ) (expected : ℕ) → Spares k (appending k label entry expected)
  unfolding appending
  appending_spares label entry expected = does_spares _ _ _ _ _ _

  pub appending_many_spares : (label list : List ℕ) (expected : ℕ) → Spares k (appending_many k label list expected)
  unfolding appending_many
  appending_many_spares label list expected = does_spares _ _ _ _ _ _

  pub reading_spares : (label nonce : List ℕ) → Spares k (reading k label nonce)
  unfolding reading
  reading_spares label nonce = does_spares _ 0 _ _ _ _

  pub appending_and_reading_spares : (label entry : List ℕ) (expected : ℕ) (nonce : List ℕ) → Spares k (appending_and_reading k label entry expected nonce)
  unfolding appending_and_reading
  appending_and_reading_spares label entry expected nonce = does_spares _ _ _ _ _ _

  pub finalising_spares : (next : List ℕ) → Spares k (finalising k next)
  unfolding finalising leaving
  finalising_spares next =
      unless-spares _ 0 _
      (either_spares (eqb k.head.status finalised) _ _ (again_spares _) (does_spares _ 0 _ _ _ _))

  pub activating_spares : (previous own s : List ℕ) → Spares k (activating k previous own s)
  unfolding activating
  activating_spares previous own s = does_spares _ 0 _ _ _ _

  pub checking_spares : (previous own s : List ℕ) (list i : ℕ) → Spares k (checking k previous own s list i)
  unfolding checking
  checking_spares previous own s list i = does_spares _ 0 _ _ _ _
