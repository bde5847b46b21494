use mathlib.Core.Path.{◌≡◌}
use mathlib.Core.List.{List}
use Prim.Native.Nat.{ℕ, ◌*◌}
use lib.ListN.{length}
use Rattle.octets.specs.Strings.{all_zero}
use Rattle.rows.specs.Sizes.{row_bytes, table_bytes}
use Rattle.roll.specs.Roll.{filled}
use Rattle.store.specs.Area.{first_place}
use Rattle.maker.specs.Rolls.{label_number, rows_made}
use Rattle.composing.proofs.Placed.{last_of}
use Rattle.composing.proofs.rows_made.put_rows.Given as goal

-- no label before number r is zeros
abbrev pub passed : List ℕ → ℕ → Type 0
passed e r = first_place (λ (k : ℕ). all_zero (label_number e k)) r ≡ r

abbrev pub invariant-loop-r : goal.invariant-loop-r
invariant-loop-r l = (l.last ≡ last_of l.e l.r) × passed l.e l.r × (length (rows_made l.e l.r) ≡ row_bytes * l.r) × (l.table ≡ filled table_bytes (rows_made l.e l.r))
