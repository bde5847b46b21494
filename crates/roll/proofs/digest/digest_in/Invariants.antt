use mathlib.Core.Path.{◌≡◌}
use Prim.Native.Nat.{◌+◌}
use lib.ListN.{length}
use Rattle.octets.specs.Strings.{put}
use Rattle.rows.specs.Sizes.{table_bytes}
use Rattle.roll.specs.Blocks.{gathered}
use Rattle.roll.proofs.digest.digest_in.Given as goal

abbrev pub invariant-loop-b : goal.invariant-loop-b
invariant-loop-b l = (length l.initial.message ≡ 2 + table_bytes) × (length l.message ≡ 2 + table_bytes) × (l.message ≡ put l.initial.message 2 (gathered l.s l.b))
