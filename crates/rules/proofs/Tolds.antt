-- Laws of what a call tells by its result: a refusal is told as the rule that its tests refuse, an acceptance as the rule that none refuses. Assumes nothing.
use mathlib.Core.Path.{◌≡◌, refl, ap, ◌∙◌}
use mathlib.Core.Bool.{Bool, true, false}
use mathlib.Core.List.{List}
use Prim.Native.Nat.{ℕ}
use borrow.Author.Tests.{eqb-true, eq-eqb, ne_eqb}
use lib.ListN.{length}
use lib.Dec.{eqb}
use Rattle.std.specs.Prelude.{Result, Ok, Err}
use Rattle.std.specs.Result.{IsErrAnd}
use Rattle.std.proofs.lemmas.Result.{err_from_is_err_and}
use Rattle.refusals.specs.{accepted, out_of_order}
use Rattle.refusals.specs.declared.Refusal.{Refusal}
use Rattle.refusals.specs.Refused.{refusal_number, refusal_height}
use Rattle.refusals.proofs.Answered.{number_refuses}
use Rattle.octets.specs.Strings.{put}
use Rattle.rules.specs.declared.Head.{Head}
use Rattle.rules.specs.declared.Done.{Done}
use Rattle.rules.specs.Outcomes.{Lent, Outcome, outcome, refusing, told, told_place, refused, given, unless}

module _ (r : Refusal) (n height : ℕ) (e : refusal_number r ≡ n) where
  -- the answer of a refusal that shows the height where it is out of order
  pub refusing_as : (n ≡ out_of_order → refusal_height r ≡ height) → refusing (refusal_number r) (refusal_height r) ≡ refusing n height
  refusing_as shows = go (eqb n out_of_order) refl
    where
      go : (b : Bool) → eqb n out_of_order ≡ b → refusing (refusal_number r) (refusal_height r) ≡ refusing n height
      go true t = rw (e, shows (eqb-true n out_of_order t))
      go false t = rw (e, t)

  pub refusing_alone : eqb n out_of_order ≡ false → refusing (refusal_number r) (refusal_height r) ≡ refusing n height
  refusing_alone other = rw (e, other)

-- a call that is refused
pub refused_told :
    (k : Lent) (r : Refusal) (n height : ℕ) (effect : Outcome) → refusal_number r ≡ n → (n ≡ out_of_order → refusal_height r ≡ height)
    → outcome (told k.head (Err r)) k.table k.area ≡ unless n height k effect
unfolding refused unless
refused_told k r n height effect e shows = rw (ne_eqb n accepted (λ z. number_refuses r (e ∙ z)), refusing_as r n height e shows)

pub refused_alone :
    (k : Lent) (r : Refusal) (n height : ℕ) (effect : Outcome) → refusal_number r ≡ n → eqb n out_of_order ≡ false
    → outcome (told k.head (Err r)) k.table k.area ≡ unless n height k effect
unfolding refused unless
refused_alone k r n height effect e other = rw (ne_eqb n accepted (λ z. number_refuses r (e ∙ z)), refusing_alone r n height e other)

-- a call that is accepted
pub done_told :
    (k : Lent) (d : Done) (n height : ℕ) (bytes table t a : List ℕ) (head : Head) → n ≡ accepted
    → d ≡ record { written = length bytes; repeat = false; head = head } → t ≡ table → a ≡ put k.area 0 bytes
    → outcome (told k.head (Ok d)) t a ≡ unless n height k (given bytes head table k.area)
unfolding given unless
done_told k d n height bytes table t a head h e f g = rw (eq-eqb n accepted h, e, f, g)

-- what `?` hands on, at a goal that names the result: `handed_on _ _ c.from_residual.ensures.1`
pub handed_on : {A : Type 0} (q : Result A Refusal) (r : Refusal) → IsErrAnd q (λ y. y ≡ r) → q ≡ Err r
handed_on q r h = let p = err_from_is_err_and q h in p.1 ∙ ap (λ (y : Refusal). Err y) p.2

-- a call whose `?` hands a refusal on
pub passed_told :
    (k : Lent) (q : Result Done Refusal) (r : Refusal) (n height : ℕ) (effect : Outcome) → IsErrAnd q (λ y. y ≡ r) → refusal_number r ≡ n
    → (n ≡ out_of_order → refusal_height r ≡ height) → outcome (told k.head q) k.table k.area ≡ unless n height k effect
passed_told k q r n height effect h e shows =
    ap (λ (x : Result Done Refusal). outcome (told k.head x) k.table k.area) (handed_on q r h) ∙ refused_told k r n height effect e shows

pub passed_alone :
    (k : Lent) (q : Result Done Refusal) (r : Refusal) (n height : ℕ) (effect : Outcome) → IsErrAnd q (λ y. y ≡ r) → refusal_number r ≡ n
    → eqb n out_of_order ≡ false → outcome (told k.head q) k.table k.area ≡ unless n height k effect
passed_alone k q r n height effect h e other =
    ap (λ (x : Result Done Refusal). outcome (told k.head x) k.table k.area) (handed_on q r h) ∙ refused_alone k r n height effect e other

-- the same of a call that gives a place and leaves the head
pub refused_place :
    (k : Lent) (written : ℕ) (r : Refusal) (n height : ℕ) (effect : Outcome) → refusal_number r ≡ n → (n ≡ out_of_order → refusal_height r ≡ height)
    → outcome (told_place k.head written (Err r)) k.table k.area ≡ unless n height k effect
unfolding refused unless
refused_place k written r n height effect e shows = rw (ne_eqb n accepted (λ z. number_refuses r (e ∙ z)), refusing_as r n height e shows)

pub passed_place :
    (k : Lent) (written : ℕ) (q : Result ℕ Refusal) (r : Refusal) (n height : ℕ) (effect : Outcome) → IsErrAnd q (λ y. y ≡ r) → refusal_number r ≡ n
    → (n ≡ out_of_order → refusal_height r ≡ height) → outcome (told_place k.head written q) k.table k.area ≡ unless n height k effect
passed_place k written q r n height effect h e shows =
    ap (λ (x : Result ℕ Refusal). outcome (told_place k.head written x) k.table k.area) (handed_on q r h) ∙ refused_place k written r n height effect e shows

pub done_place :
    (k : Lent) (i n height : ℕ) (bytes table t a : List ℕ) → n ≡ accepted → t ≡ table → a ≡ put k.area 0 bytes
    → outcome (told_place k.head (length bytes) (Ok i)) t a ≡ unless n height k (given bytes k.head table k.area)
unfolding given unless
done_place k i n height bytes table t a h f g = rw (eq-eqb n accepted h, f, g)
