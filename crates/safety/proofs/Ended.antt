-- How a call ends: refused, with nothing changed and nothing said, or with its effect and the statements in its output area. Assumes nothing.
use mathlib.Core.Path.{◌≡◌, ap, ◌∙◌}
use mathlib.Core.Bool.{true, false, not, ◌&&◌}
use mathlib.Core.List.{List, ◌++◌, append_assoc}
use Prim.Native.Nat.{ℕ}
use borrow.Author.Tests.{ne_eqb}
use lib.ListN.{length, take, drop}
use lib.Seq.{take_at, drop_at}
use lib.Dec.{eqb}
use Rattle.refusals.specs.{accepted}
use Rattle.octets.specs.Strings.{put}
use Rattle.statement.specs.declared.Statement.{Statement}
use Rattle.rules.specs.declared.Head.{Head}
use Rattle.rules.specs.Outcomes.{Outcome, refused, given, again, unless}
use Rattle.rules.proofs.Refused.{Ends, stopped, went, ends}
use Rattle.safety.specs.Calls.{Keeper, Call, lent, outcome_of, left_by, accepts, statements_in, for_signing}
use Rattle.safety.proofs.Views.{View, idles, Idle}
use Rattle.safety.proofs.Tales.{says}

module _ (key : List ℕ) (k : Keeper) (call : Call) where
  -- a refused call changes nothing and says nothing
  pub refused_idles : (n height : ℕ) (area : List ℕ) → (n ≡ accepted → ⊥) → outcome_of key k call ≡ refused n height (lent k area) → Idle k (left_by key k call) (says key k call)
  unfolding left_by accepts for_signing refused
  refused_idles n height area refuses e =
      let t : eqb (outcome_of key k call).answer.number accepted ≡ false = ap (λ (o : Outcome). eqb o.answer.number accepted) e ∙ ne_eqb n accepted refuses in
      record { same_head = ap (λ (o : Outcome). o.left.head) e; same_table = ap (λ (o : Outcome). o.left.table) e; says = rw t }

  -- so a call is seen by what it does where nothing refuses
  pub unless_refused :
      (Hashes : List ℕ → Type 0) (Said : List ℕ → Statement → Type 0) (n height : ℕ) (area : List ℕ) (effect : Outcome)
      → outcome_of key k call ≡ unless n height (lent k area) effect
      → (n ≡ accepted → outcome_of key k call ≡ effect → View Hashes Said k (left_by key k call) (says key k call))
      → View Hashes Said k (left_by key k call) (says key k call)
  unless_refused Hashes Said n height area effect e seen = go (ends n height (lent k area) effect)
    where
      go : Ends n height (lent k area) effect (unless n height (lent k area) effect) → View Hashes Said k (left_by key k call) (says key k call)
      go (stopped refuses o) = idles (refused_idles n height area refuses (e ∙ o))
      go (went accepts o) = seen accepts (e ∙ o)

  -- a repeated one says nothing either
  pub again_idles : (bytes area : List ℕ) → outcome_of key k call ≡ again bytes (lent k area) → Idle k (left_by key k call) (says key k call)
  unfolding left_by accepts for_signing again
  again_idles bytes area e =
      let t : (eqb (outcome_of key k call).answer.number accepted && not (outcome_of key k call).answer.repeat) ≡ false =
      ap (λ (o : Outcome). eqb o.answer.number accepted && not o.answer.repeat) e in
      record { same_head = ap (λ (o : Outcome). o.left.head) e; same_table = ap (λ (o : Outcome). o.left.table) e; says = rw t }

  -- an effect: the call is accepted, and what lies in its area is for signing
  pub record Gives (bytes : List ℕ) (head : Head) (table area : List ℕ) : Type 0 where
    pub accepts_it : accepts key k call ≡ true
    pub leaves : left_by key k call ≡ record { head = head; table = table }
    pub signs : for_signing key k call ≡ statements_in call (put area 0 bytes)

  pub gives : (bytes : List ℕ) (head : Head) (table area : List ℕ) → outcome_of key k call ≡ given bytes head table area → Gives bytes head table area
  unfolding left_by accepts for_signing given
  gives bytes head table area e =
      let t : eqb (outcome_of key k call).answer.number accepted ≡ true = ap (λ (o : Outcome). eqb o.answer.number accepted) e in
      let u : (eqb (outcome_of key k call).answer.number accepted && not (outcome_of key k call).answer.repeat) ≡ true =
      ap (λ (o : Outcome). eqb o.answer.number accepted && not o.answer.repeat) e in
      record {
        accepts_it = t;
        leaves = ap (λ (o : Outcome). record { head = o.left.head; table = o.left.table }) e;
        signs = rw u (ap (λ (o : Outcome). statements_in call o.left.area) e);
      }

-- a view of what a call leaves and says, from the record and statements that these are
module _ {Hashes : List ℕ → Type 0} {Said : List ℕ → Statement → Type 0} where
  pub seen_by : {k k' k'' : Keeper} {said said' : List Statement} → k' ≡ k'' → said ≡ said' → View Hashes Said k k'' said' → View Hashes Said k k' said
  seen_by p q v = rw (p, q) v

-- the statements that were put into an area
module _ (area s : List ℕ) (n : ℕ) (long : length s ≡ n) where
  pub alone_in : take n (put area 0 s) ≡ s
  unfolding put
  alone_in = take_at s _ n long

  module _ (t : List ℕ) where
    pub first_in : take n (put area 0 (s ++ t)) ≡ s
    unfolding put
    first_in = rw (append_assoc s t _) (take_at s _ n long)

    pub next_in : (m : ℕ) → length t ≡ m → take m (drop n (put area 0 (s ++ t))) ≡ t
    unfolding put
    next_in m l = rw (append_assoc s t _, drop_at s _ n long) (take_at t _ m l)
