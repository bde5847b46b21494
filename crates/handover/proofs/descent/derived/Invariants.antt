use mathlib.Core.Path.{◌≡◌}
use mathlib.Core.Bool.{Bool, true}
use mathlib.Core.List.{List}
use Prim.Native.Nat.{ℕ, ◌<◌, ◌*◌}
use lib.ListN.{length}
use Rattle.rows.specs.Sizes.{most_rows}
use Rattle.rows.specs.Table.{each}
use Rattle.roll.specs.Roll.{Roll}
use Rattle.rules.specs.Bundle.{list_at}
use Rattle.rules.specs.Derivation.{some, roll_of, roll_derived}
use Rattle.handover.specs.Asked.{keeps, flag}
use Rattle.handover.proofs.descent.derived.Given as goal

-- whether one of the first i old entries keeps row r
abbrev pub kept_so_far : Roll → List ℕ → ℕ → ℕ → Bool
kept_so_far ours s i r = some (λ j. keeps ours (roll_of s j) s j r) i

abbrev pub invariant-loop-i : goal.invariant-loop-i
invariant-loop-i l = record {
  led : each (roll_derived (record { count = l.rows; rows = l.table }) l.s) l.i ≡ true;
  long : length l.kept ≡ most_rows;
  flagged : (r : ℕ) → r < l.rows → flag l.kept r ≡ kept_so_far (record { count = l.rows; rows = l.table }) l.s l.i r;
  placed : l.at ≡ list_at l.s (l.rows * l.i);
}
