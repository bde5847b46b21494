-- The parts of Initialise's rule: its tests of the own rack, those of the roll and the previous rack, and what it does where a roll is taken over.
use Rattle.std.specs.Prelude.{◌≡◌, true, not, cond, ◌&&◌, List, [], ◌∷◌, ℕ, ◌≤◌, length}
use Rattle.refusals.specs.{rack_broken, rack_of_two, key_not_in_rack, roll_or_rack_alone, roll_broken}
use Rattle.refusals.specs.Order.{Test, ◌⇒◌}
use Rattle.octets.specs.Layouts.{holds}
use Rattle.rack.specs.Racks.{rack_layout, is_of_two}
use Rattle.rows.specs.Sizes.{table_bytes}
use Rattle.rows.specs.Digests.{roll_digest}
use Rattle.roll.specs.Roll.{roll_layout}
use Rattle.statement.specs.declared.Kind.TheVariants.{Initialise}
use Rattle.statement.specs.declared.Statement.{Statement}
use Rattle.statement.specs.Kinds.{handover_size}
use Rattle.statement.specs.Cut.{handover_of}
use Rattle.rules.specs.declared.Head.{Head}
use Rattle.rules.specs.Outcomes.{Lent, Outcome}
use Rattle.rules.specs.Initialise.{absent, is_in_rack, preparing, entered}

-- "own rack 6", 38, "7"
abbrev pub own_tests : List ℕ → List ℕ → List Test
own_tests key own =
    (not (holds rack_layout own) ⇒ rack_broken)
    ∷ (is_of_two own ⇒ rack_of_two)
    ∷ (not (is_in_rack key own) ⇒ key_not_in_rack)
    ∷ []

-- "8, previous rack 6, 15"
abbrev pub old_tests : List ℕ → List ℕ → List Test
old_tests roll previous =
    (cond (absent roll) (not (absent previous)) (absent previous) ⇒ roll_or_rack_alone)
    ∷ (not (absent previous) && not (holds rack_layout previous) ⇒ rack_broken)
    ∷ (not (absent roll) && not (holds roll_layout roll) ⇒ roll_broken)
    ∷ []

-- the statement of a head and a table, before it is written
abbrev pub spoken : Head → List ℕ → Statement
spoken h table =
    handover_of Initialise h.identity h.own h.previous (roll_digest h.count table)

-- what a keeper that takes over has been lent
pub record Takeable (k : Lent) (roll previous own : List ℕ) : Type 0 where
  pub room : handover_size ≤ length k.area
  pub long : length k.table ≡ table_bytes
  pub own_holds : holds rack_layout own ≡ true
  pub previous_holds : holds rack_layout previous ≡ true
  pub roll_holds : holds roll_layout roll ≡ true

unfoldable pub taking_over : Lent → List ℕ → List ℕ → List ℕ → List ℕ → Outcome
taking_over k identity roll previous own =
    entered k (preparing k.head identity (roll_layout.cut roll).count previous own) (roll_layout.cut roll).rows
