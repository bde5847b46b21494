-- A call that repeats what it wrote earlier leaves the head. Assumes nothing.
use mathlib.Core.Path.{◌≡◌, refl, sym, ap, ◌∙◌}
use mathlib.Core.Bool.{Bool, true, false, cond}
use mathlib.Core.List.{List}
use Prim.Native.Nat.{ℕ}
use Rattle.rules.specs.declared.Head.{Head}
use Rattle.rules.specs.Outcomes.{Lent, Outcome, given, again, unless}
use Rattle.rules.proofs.Refused.{Ends, stopped, went, ends, refused_leaves}

abbrev pub Keeps : Lent → Outcome → Type 0
Keeps k o = o.answer.repeat ≡ true → o.left.head ≡ k.head

module _ (k : Lent) where
  pub unless-keeps : (n height : ℕ) (effect : Outcome) → Keeps k effect → Keeps k (unless n height k effect)
  unless-keeps n height effect keeps r = go (ends n height k effect)
    where
      go : Ends n height k effect (unless n height k effect) → (unless n height k effect).left.head ≡ k.head
      go (stopped some e) = ap (λ (o : Outcome). o.left.head) e ∙ ap (λ (l : Lent). l.head) (refused_leaves n height k)
      go (went none e) = ap (λ (o : Outcome). o.left.head) e ∙ keeps (ap (λ (o : Outcome). o.answer.repeat) (sym e) ∙ r)

  -- what is given the first time is no repeat
  pub given_keeps : (bytes : List ℕ) (head : Head) (table area : List ℕ) → Keeps k (given bytes head table area)
  unfolding given
  given_keeps bytes head table area r = let z : ◌≡◌ {A = Bool} false true = r in cc

  pub again_keeps : (bytes : List ℕ) → Keeps k (again bytes k)
  unfolding again
  again_keeps bytes r = refl

  pub either_keeps : (b : Bool) (o q : Outcome) → Keeps k o → Keeps k q → Keeps k (cond b o q)
  either_keeps true o q s t = s
  either_keeps false o q s t = t

  pub does_keeps :
      (n height : ℕ) (bytes : List ℕ) (head : Head) (table area : List ℕ) → Keeps k (unless n height k (given bytes head table area))
  does_keeps n height bytes head table area = unless-keeps n height (given bytes head table area) (given_keeps bytes head table area)
