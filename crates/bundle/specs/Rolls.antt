-- The rolls of a bundle's old entries, in turn.
use Rattle.std.specs.Prelude.{List, [], ◌∷◌, ℕ, zero, suc, ◌-◌}
use Rattle.rules.specs.Bundle.{old_count, old_roll}
use Rattle.bundle.specs.declared.rolls.OldRolls.{OldRolls}

-- the rolls of n old entries from number i on
unfoldable pub rolls_from : List ℕ → ℕ → ℕ → List (List ℕ)
rolls_from s i zero = []
rolls_from s i (suc n) = old_roll s i ∷ rolls_from s (suc i) n

-- the rolls of all old entries
abbrev pub all_rolls : List ℕ → List (List ℕ)
all_rolls s = rolls_from s 0 (old_count s)

-- the rolls that an iterator has not given yet
abbrev pub rolls_left : OldRolls → List (List ℕ)
rolls_left w = rolls_from w.s.now w.i (old_count w.s.now - w.i)
