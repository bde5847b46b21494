-- The order of refusals. 01, "Calls, with the order of their refusals": a call tests in turn, and answers the first refusal whose test holds.
use Rattle.std.specs.Prelude.{Bool, cond, List, [], ◌∷◌, ℕ}
use Rattle.refusals.specs.{accepted}

-- a test, and the refusal where it holds
pub record Test : Type 0 where
  pub holds : Bool
  pub number : ℕ

infixr 20 ◌⇒◌
abbrev pub ◌⇒◌ : Bool → ℕ → Test
b ⇒ n = record { holds = b; number = n }

-- the refusal of the first test that holds; 0 where none does
unfoldable pub first : List Test → ℕ
first [] = accepted
first (t ∷ ts) = cond t.holds t.number (first ts)
