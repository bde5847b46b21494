-- M-108: an accepted New gives its label's company one row more, 31 at most, and the other none. Assumes nothing.
use mathlib.Core.Path.{◌≡◌, refl, sym, ap, ◌∙◌}
use mathlib.Core.Bool.{Bool, true, false, not, cond}
use mathlib.Core.List.{List}
use Prim.Native.Nat.{ℕ, ◌+◌}
use native.Mathlib.Omega.{arith}
use lib.ListN.{length}
use Rattle.refusals.specs.{accepted}
use Rattle.rows.specs.Sizes.{label_bytes}
use Rattle.rules.specs.Outcomes.{Lent, Outcome, given}
use Rattle.rules.specs.Companies.{company, belongs}
use Rattle.rules.specs.New.{new_refusal, making}
use Rattle.rules.proofs.Noted.{Makeable, makeable}
use Rattle.rules.proofs.Prepared.{has_effect}
use Rattle.rules.proofs.Refused.{unless_says}
use Rattle.companies.specs.Limit.{has_of, Limited, Limit}
use Rattle.companies.proofs.Alike.{one_company}
use Rattle.companies.proofs.CompanyRows.{counted}
use Rattle.companies.proofs.Left as left

its_own : (label : List ℕ) → belongs label (company label) ≡ true
unfolding belongs
its_own label = go (company label)
  where
    go : (c : Bool) → cond c c (not c) ≡ true
    go true = refl
    go false = refl

module _ (k : Lent) (label : List ℕ) (sized : length label ≡ label_bytes) (e : (making k label).answer.number ≡ accepted) where
  none : new_refusal k label ≡ accepted
  unfolding making
  none = sym (unless_says (new_refusal k label) 0 k _ _ _ _) ∙ e

  can : Makeable k label
  can = makeable k label none

  grows : (first : Bool) → has_of (making k label).left first ≡ has_of k first + cond (belongs label first) 1 0
  unfolding making given
  grows first =
      ap (λ (o : Outcome). has_of o.left first) (has_effect (new_refusal k label) 0 k _ none)
      ∙ counted first _ _ ∙ left.widened_counts k label can sized first
      ∙ ap (λ (n : ℕ). n + cond (belongs label first) 1 0) (sym (counted first k.head.count k.table))

  limited : Limited k label
  limited =
      let own = grows (company label) ∙ ap (λ (b : Bool). has_of k (company label) + cond b 1 0) (its_own label) in
      let other = ap (λ (b : Bool). has_of k (not (company label)) + cond b 1 0) (one_company label (company label) true (its_own label)) in
      record {
        one_more_own = own;
        at_most = omega (arith, own, can.own-few);
        others_stay = grows (not (company label)) ∙ other ∙ omega arith;
      }

pub limit : Limit
limit = limited
