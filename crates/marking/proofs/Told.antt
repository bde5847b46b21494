-- Which outcome of the calls each test decides. Assumes nothing.
use mathlib.Core.Path.{◌≡◌}
use mathlib.Core.Bool.{true, false}
use mathlib.Core.List.{List}
use Prim.Native.Nat.{ℕ}
use lib.ListN.{set}
use Rattle.refusals.specs.{accepted, list_broken}
use Rattle.marks.specs.{marks_fit}
use Rattle.rules.specs.Bundle.{byte}
use Rattle.marking.specs.declared.Position.{Position}
use Rattle.marking.specs.Entry.{entry_at, marks_place, has_entry}
use Rattle.marking.specs.Calls.{Marked, positioned, marking}

abbrev pub position_told : ℕ → ℕ → Position
position_told number position = record { number = number; position = position }

abbrev pub bundle_left : ℕ → List ℕ → Marked
bundle_left answer s = record { answer = answer; bundle = s }

module _ (s : List ℕ) (list i : ℕ) where
  pub no_position : has_entry s list i ≡ false → position_told list_broken 0 ≡ positioned s list i
  unfolding positioned
  no_position h = rw h

  pub the_position : (at : ℕ) → has_entry s list i ≡ true → at ≡ entry_at s list i → position_told accepted (byte s at) ≡ positioned s list i
  unfolding positioned
  the_position at h e = rw (h, e)

  module _ (m : ℕ) where
    pub no_entry : has_entry s list i ≡ false → bundle_left list_broken s ≡ marking s list i m
    unfolding marking
    no_entry h = rw h

    pub no_marks : has_entry s list i ≡ true → marks_fit m ≡ false → bundle_left list_broken s ≡ marking s list i m
    unfolding marking
    no_marks h n = rw (h, n)

    pub marks_set : (at : ℕ) → has_entry s list i ≡ true → marks_fit m ≡ true → at ≡ marks_place s list i → bundle_left accepted (set s at m) ≡ marking s list i m
    unfolding marking
    marks_set at h y e = rw (h, y, e)
