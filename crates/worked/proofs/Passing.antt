-- A call none of whose tests holds has its effect, and what it writes stands at the front of its area. Assumes nothing.
use mathlib.Core.Path.{◌≡◌, refl, ap, ◌∙◌}
use mathlib.Core.Bool.{Bool, false, cond}
use mathlib.Core.List.{List, [], ◌∷◌, ◌++◌, append_assoc}
use Prim.Native.Nat.{ℕ, ◌+◌}
use lib.ListN.{length, take, drop}
use lib.Seq.{take_at}
use lib.Dec.{eqb}
use Rattle.refusals.specs.{accepted}
use Rattle.refusals.specs.Order.{Test, first}
use Rattle.octets.specs.Strings.{put}
use Rattle.rules.specs.Outcomes.{Lent, Outcome, refused, unless}

-- no test of a list holds
pub data LetsBy : List Test → Type 0 where
  end : LetsBy []
  also : {t : Test} {ts : List Test} → t.holds ≡ false → LetsBy ts → LetsBy (t ∷ ts)

pub lets_all : {ts : List Test} → LetsBy ts → first ts ≡ accepted
unfolding first
lets_all end = refl
lets_all (also {t = t} {ts = ts} e l) = ap (λ (b : Bool). cond b t.number (first ts)) e ∙ lets_all l

pub lets_both : (ts us : List Test) → LetsBy ts → LetsBy us → LetsBy (ts ++ us)
lets_both [] us end m = m
lets_both (t ∷ ts) us (also e l) m = also e (lets_both ts us l m)

pub takes_effect : (n height : ℕ) (k : Lent) (o : Outcome) → n ≡ accepted → unless n height k o ≡ o
unfolding unless
takes_effect n height k o e = ap (λ (x : ℕ). cond (eqb x accepted) o (refused x height k)) e

-- what is written is the front of the area
pub front : (n : ℕ) (area s : List ℕ) → length s ≡ n → take n (put area 0 s) ≡ s
unfolding put
front n area s e = take_at s (drop (0 + length s) area) n e

pub front_of_two : (n : ℕ) (area s t : List ℕ) → length s ≡ n → take n (put area 0 (s ++ t)) ≡ s
unfolding put
front_of_two n area s t e =
    ap (take n) (append_assoc s t (drop (0 + length (s ++ t)) area)) ∙ take_at s (t ++ drop (0 + length (s ++ t)) area) n e
