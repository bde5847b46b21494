-- Laws of the tests of an active keeper: what readiness leaves to the tests after it, and that its table is sound. Assumes nothing.
use mathlib.Core.Path.{◌≡◌, refl, sym, ◌∙◌}
use mathlib.Core.Bool.{true}
use mathlib.Core.List.{List, [], ◌++◌}
use Prim.Native.Nat.{ℕ}
use borrow.Author.Tests.{eqb-false}
use Rattle.refusals.specs.{accepted, not_active}
use Rattle.refusals.specs.Order.{Test, first}
use Rattle.refusals.proofs.Orders.{numbered, stops, goes_on}
use Rattle.rows.specs.Table.{rows_fit}
use Rattle.rules.specs.Record.{active}
use Rattle.rules.specs.Outcomes.{Lent, lending, readiness}
use Rattle.rules.proofs.Firsts.{ready, sound_rows}

abbrev asked : ℕ → Lent → List Test
asked size k = readiness size active not_active k

-- a keeper that is ready has a sound table
pub ready_rows : (size : ℕ) (k : Lent) (n : ℕ) → n ≡ first (asked size k) → n ≡ accepted → rows_fit k.head.count k.table ≡ true
unfolding readiness lending
ready_rows size k n e accepts =
    sound_rows k.head k.table (ready size active not_active k [] (eqb-false 4 0 refl) (sym e ∙ accepts)).0.sounds

module _ (size : ℕ) (k : Lent) (ts : List Test) (n : ℕ) (e : n ≡ first (asked size k)) where
  pub unready_first : (n ≡ accepted → ⊥) → first (asked size k ++ ts) ≡ n
  unfolding readiness lending numbered
  unready_first refuses = stops (asked size k) ts n refl e refuses ∙ sym e

  pub ready_first : n ≡ accepted → first (asked size k ++ ts) ≡ first ts
  unfolding readiness lending numbered
  ready_first accepts = goes_on (asked size k) ts n refl e accepts
