-- Activate needs no area: what it makes of a record does not depend on one, and it leaves it. Assumes nothing.
use mathlib.Core.Path.{◌≡◌, refl, sym, ap, ◌∙◌}
use mathlib.Core.Bool.{Bool, true, false, cond}
use mathlib.Core.List.{List, [], ◌++◌}
use Prim.Native.Nat.{ℕ}
use native.Mathlib.Omega.{arith}
use borrow.Author.Tests.{le-ltb}
use lib.ListN.{length}
use lib.Dec.{eqb}
use Rattle.octets.specs.Strings.{put}
use Rattle.refusals.specs.{accepted}
use Rattle.refusals.specs.Order.{first}
use Rattle.rules.specs.declared.Head.{Head}
use Rattle.rules.specs.Told.{Told}
use Rattle.rules.specs.Outcomes.{Lent, Outcome, outcome, lending, readiness, refused, given, unless}
use Rattle.rules.specs.Activate.{acting, bundle_tests, handover_tests, activating}

-- an outcome with another area
abbrev over : Outcome → List ℕ → Outcome
over o area = record { answer = o.answer; left = record { head = o.left.head; table = o.left.table; area = area } }

module _ (head : Head) (table : List ℕ) where
  abbrev lent : List ℕ → Lent
  lent area = record { head = head; table = table; area = area }

  same_effect :
      (n : ℕ) (area : List ℕ)
      → over (unless n 0 (lent []) (given [] (acting head) table [])) area ≡ unless n 0 (lent area) (given [] (acting head) table area)
  unfolding refused given unless put
  same_effect n area = go (eqb n accepted)
    where
      go : (b : Bool)
          → over (cond b (given [] (acting head) table []) (refused n 0 (lent []))) area
          ≡ cond b (given [] (acting head) table area) (refused n 0 (lent area))
      go true = refl
      go false = refl

  module _ (area previous own s : List ℕ) where
    abbrev number : List ℕ → ℕ
    number a = first (bundle_tests 0 (lent a) previous own s ++ handover_tests (lent a) previous own s)

    same_number : number area ≡ number []
    unfolding lending readiness bundle_tests handover_tests
    same_number = rw (le-ltb (length area) 0 (omega arith))

    pub activating_any :
        (told : Told) → outcome told table [] ≡ activating (lent []) previous own s → outcome told table area ≡ activating (lent area) previous own s
    unfolding activating
    activating_any told e =
        ap (λ (o : Outcome). over o area) e ∙ same_effect (number []) area
        ∙ ap (λ (n : ℕ). unless n 0 (lent area) (given [] (acting head) table area)) (sym same_number)
