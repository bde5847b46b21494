-- What the contract of a call on a lent record promises: two outcomes that it allows are equal, and a refusal leaves all that was lent. The contract is what
-- the kit states of the function, its clauses: `a` are the arguments, `r` is the result and `e` are the parameters at exit. Assumes nothing.
use mathlib.Core.Path.{◌≡◌, sym, ◌∙◌}
use mathlib.Core.List.{List}
use Prim.Native.Nat.{ℕ}
use seplogic.Ra.Ura.{Ura}
use base.Logic.{ent, sep, via, fst∗, snd∗}
use contract.Lifetimes.{Lfts}
use contract.Monad.{fact, fact_use, fact_mono}
use denote.Triple.Clauses.{Ended, AtExit, Clauses}
use denote.Triple.Entry.{Args, Res}
use Rattle.refusals.specs.{accepted}
use Rattle.rules.specs.declared.Head.{Head}
use Rattle.rules.specs.declared.Answer.{Answer}
use Rattle.rules.specs.Outcomes.{Lent, Outcome}
use Rattle.rules.proofs.Refused.{Spares}
use Rattle.table.specs.declared.Row.{Row}
use Rattle.table.specs.Flat.{flattened}
use Rattle.table.specs.Held.{Held, over_rows}
use Rattle.table.proofs.RowTrips.{AllTyped}
use Rattle.table.proofs.LeftRows.{spared}

abbrev pub held : Answer → Head → List Row → List ℕ → Held
held answer head rows area = record { answer = answer; head = head; rows = rows; area = area }

module _ {M : Type 1} (𝓤 : Ura M) (T : Ended) (c : Clauses 𝓤 T) where
  -- two outcomes that the contract allows for the same arguments are equal; `seen` is the outcome. What is lent shared is as the argument has it
  abbrev pub One : ((κs : Lfts T.signature.lifetimes) → Args T.signature κs → Res T.signature κs → AtExit T κs → Held) → Type 1
  One seen =
      (κs : Lfts T.signature.lifetimes) (a : Args T.signature κs) (g : (c κs a).ghost) (r r' : Res T.signature κs) (e e' : AtExit T κs)
      → ent 𝓤 (sep 𝓤 ((c κs a).ensures g r e) ((c κs a).ensures g r' e')) (fact 𝓤 (seen κs a r e ≡ seen κs a r' e'))

  -- an answer other than 0 leaves head, rows and area as they were lent: the outcome is `lent` with that answer, where the rows are as their type has them
  abbrev pub Spared :
      ((κs : Lfts T.signature.lifetimes) → Args T.signature κs → Answer → Held)
      → ((κs : Lfts T.signature.lifetimes) → Args T.signature κs → Res T.signature κs → AtExit T κs → Held) → Type 1
  Spared lent seen =
      (κs : Lfts T.signature.lifetimes) (a : Args T.signature κs) (g : (c κs a).ghost) (r : Res T.signature κs) (e : AtExit T κs)
      → AllTyped (lent κs a (seen κs a r e).answer).rows
      → ent 𝓤 ((c κs a).ensures g r e) (fact 𝓤 (((seen κs a r e).answer.number ≡ accepted → ⊥) → seen κs a r e ≡ lent κs a (seen κs a r e).answer))

-- both hold of a contract by `over_rows` of a rule
module _ {M : Type 1} (𝓤 : Ura M) (rule : Lent → Outcome) (head : Head) (rows : List Row) (area : List ℕ) where
  abbrev said : Held → Type 0
  said x = x ≡ over_rows rule head rows area

  pub one_outcome : (x y : Held) → ent 𝓤 (sep 𝓤 (fact 𝓤 (said x)) (fact 𝓤 (said y))) (fact 𝓤 (x ≡ y))
  one_outcome x y =
      fact_use 𝓤 (said x) (fst∗ 𝓤 (fact 𝓤 (said x)) (fact 𝓤 (said y)))
      (λ p. via 𝓤 (fact 𝓤 (said y)) (snd∗ 𝓤 (fact 𝓤 (said x)) (fact 𝓤 (said y))) (fact_mono 𝓤 (said y) (x ≡ y) (λ q. p ∙ sym q)))

  pub refusal_spares :
      Spares (record { head = head; table = flattened rows; area = area }) (rule (record { head = head; table = flattened rows; area = area }))
      → AllTyped rows → (x : Held) → ent 𝓤 (fact 𝓤 (said x)) (fact 𝓤 ((x.answer.number ≡ accepted → ⊥) → x ≡ held x.answer head rows area))
  refusal_spares spares ts x = fact_mono 𝓤 _ _ (spared rows ts rule head area spares x)
