-- The rules of the calls by which one rack follows another leave the head where they repeat. 01, of Finalise: "if already finalised, the earlier statement and
-- roll again .., marked as a repeat". Assumes nothing.
use mathlib.Core.List.{List}
use Prim.Native.Nat.{ℕ}
use lib.Dec.{eqb}
use Rattle.rules.specs.Record.{finalised}
use Rattle.rules.specs.Outcomes.{Lent}
use Rattle.rules.specs.Initialise.{absent, entered, initialising}
use Rattle.rules.specs.Finalise.{leaving, finalising}
use Rattle.rules.specs.Activate.{activating}
use Rattle.table.proofs.Repeats.{Keeps, unless-keeps, given_keeps, again_keeps, either_keeps, does_keeps}

module _ (k : Lent) where
  pub initialising_keeps : (identity roll previous own : List ℕ) → Keeps k (initialising k identity roll previous own)
  unfolding initialising entered
  initialising_keeps identity roll previous own =
      unless-keeps k _ 0 _ (either_keeps k (absent roll) _ _ (given_keeps k _ _ _ _) (given_keeps k _ _ _ _))

  pub finalising_keeps : (next : List ℕ) → Keeps k (finalising k next)
  unfolding finalising leaving
  finalising_keeps next =
      unless-keeps k _ 0 _ (either_keeps k (eqb k.head.status finalised) _ _ (again_keeps k _) (unless-keeps k _ 0 _ (given_keeps k _ _ _ _)))

  pub activating_keeps : (previous own s : List ℕ) → Keeps k (activating k previous own s)
  unfolding activating
  activating_keeps previous own s = does_keeps k _ 0 _ _ _ _
