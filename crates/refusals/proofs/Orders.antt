-- Laws of the order of refusals: what one list of tests leaves to the next, and what is known where none refuses. Assumes nothing.
use mathlib.Core.Path.{◌≡◌, refl, sym, ap, ◌∙◌}
use mathlib.Core.Bool.{Bool, true, false, not, cond, ◌&&◌}
use mathlib.Core.List.{List, [], ◌∷◌, ◌++◌}
use Prim.Native.Nat.{ℕ}
use borrow.Author.Tests.{eq-eqb, ne_eqb, eqb-true, eqb-false, not-true}
use lib.Dec.{eqb}
use Rattle.refusals.specs.{accepted}
use Rattle.refusals.specs.Order.{Test, ◌⇒◌, first}

-- each test's number is a refusal's
unfoldable pub numbered : List Test → Bool
numbered [] = true
numbered (t ∷ ts) = not (eqb t.number accepted) && numbered ts

-- a test that does not refuse does not hold, nor do those after it
pub passes : (b : Bool) (n : ℕ) (ts : List Test) → (n ≡ accepted → ⊥) → first ((b ⇒ n) ∷ ts) ≡ accepted → (b ≡ false) × (first ts ≡ accepted)
unfolding first
passes true n ts h e = absurd (h e)
passes false n ts h e = (refl, e)

step :
    (b : Bool) (n : ℕ) (rest : ℕ) (later : ℕ) → eqb n accepted ≡ false
    → cond b n (cond (eqb rest accepted) later rest) ≡ cond (eqb (cond b n rest) accepted) later (cond b n rest)
step true n rest later e = rw e
step false n rest later e = refl

is_not : (b : Bool) → not b ≡ true → b ≡ false
is_not false e = refl
is_not true e = sym e

split_and : (a b : Bool) → a && b ≡ true → (a ≡ true) × (b ≡ true)
split_and true b e = (refl, e)
split_and false b e = let z : ◌≡◌ {A = Bool} false true = e in (cc, cc)

-- the later tests count only where none of the earlier ones holds
pub first_then :
    (ts us : List Test) → numbered ts ≡ true → first (ts ++ us) ≡ cond (eqb (first ts) accepted) (first us) (first ts)
unfolding first numbered
first_then [] us h = refl
first_then (t ∷ ts) us h =
    let p = split_and (not (eqb t.number accepted)) (numbered ts) h in
    ap (λ (x : ℕ). cond t.holds t.number x) (first_then ts us p.1)
    ∙ step t.holds t.number (first ts) (first us) (is_not (eqb t.number accepted) p.0)

-- the same from the number that the earlier tests came to
pub stops :
    (ts us : List Test) (n : ℕ) → numbered ts ≡ true → n ≡ first ts → (n ≡ accepted → ⊥) → first (ts ++ us) ≡ first ts
stops ts us n h e refuses = first_then ts us h ∙ rw (sym (ap (λ (m : ℕ). eqb m accepted) e) ∙ ne_eqb n accepted refuses)

pub goes_on :
    (ts us : List Test) (n : ℕ) → numbered ts ≡ true → n ≡ first ts → n ≡ accepted → first (ts ++ us) ≡ first us
goes_on ts us n h e accepts = first_then ts us h ∙ rw (sym (ap (λ (m : ℕ). eqb m accepted) e) ∙ eq-eqb n accepted accepts)

both : (a later : ℕ) (b : Bool) → eqb a accepted ≡ b → cond b later a ≡ accepted → (a ≡ accepted) × (later ≡ accepted)
both a later true t x = (eqb-true a accepted t, x)
both a later false t x = absurd (eqb-false a accepted t x)

-- where none refuses, none of the earlier ones does nor of the later
pub none_refuses :
    (ts us : List Test) → numbered ts ≡ true → first (ts ++ us) ≡ accepted → (first ts ≡ accepted) × (first us ≡ accepted)
none_refuses ts us h e = both (first ts) (first us) (eqb (first ts) accepted) refl (sym (first_then ts us h) ∙ e)

-- the first test, where it holds and where it does not
pub refuses : (b : Bool) (n : ℕ) (ts : List Test) → b ≡ true → first ((b ⇒ n) ∷ ts) ≡ n
unfolding first
refuses b n ts e = rw e

pub lets_by : (b : Bool) (n : ℕ) (ts : List Test) → b ≡ false → first ((b ⇒ n) ∷ ts) ≡ first ts
unfolding first
lets_by b n ts e = rw e

-- no test has the number m
unfoldable pub lacks : ℕ → List Test → Bool
lacks m [] = not (eqb accepted m)
lacks m (t ∷ ts) = not (eqb t.number m) && lacks m ts

either : (b : Bool) (x y m : ℕ) → eqb x m ≡ false → eqb y m ≡ false → eqb (cond b x y) m ≡ false
either true x y m p q = p
either false x y m p q = q

-- so it is not the answer
pub lacking : (m : ℕ) (ts : List Test) → lacks m ts ≡ true → eqb (first ts) m ≡ false
unfolding first lacks
lacking m [] h = not-true (eqb accepted m) h
lacking m (t ∷ ts) h =
    let p = split_and (not (eqb t.number m)) (lacks m ts) h in
    either t.holds t.number (first ts) m (not-true (eqb t.number m) p.0) (lacking m ts p.1)
