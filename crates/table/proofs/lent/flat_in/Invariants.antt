use mathlib.Core.Path.{◌≡◌}
use Prim.Native.Nat.{◌*◌}
use lib.ListN.{length, take}
use Rattle.rows.specs.Sizes.{row_bytes, table_bytes}
use Rattle.table.specs.Flat.{flattened}
use Rattle.table.proofs.lent.flat_in.Given as goal

abbrev pub invariant-loop-i : goal.invariant-loop-i
invariant-loop-i l = (length l.bytes ≡ table_bytes) × (take (row_bytes * l.i) l.bytes ≡ flattened (take l.i l.rows))
