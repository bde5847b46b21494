-- Laws of a keeper's last words: the statement fits, and the blocks have room. Assumes nothing.
use mathlib.Core.Path.{◌≡◌, refl}
use mathlib.Core.Bool.{true}
use mathlib.Core.List.{List}
use Prim.Native.Nat.{ℕ, ◌*◌, ◌≤◌}
use native.Mathlib.Omega.{arith}
use Rattle.octets.specs.Strings.{all_zero}
use Rattle.rows.specs.Table.{rows_fit}
use Rattle.rows.specs.Digests.{roll_digest}
use Rattle.rows.proofs.Tables.{fit_count}
use Rattle.roll.specs.Blocks.{block_bytes, blocks}
use Rattle.roll.proofs.Blocks.{blocks_within}
use Rattle.statement.specs.declared.Kind.TheVariants.{Finalise}
use Rattle.statement.specs.declared.Statement.{Statement}
use Rattle.statement.specs.Contents.{handover_fits, fits_as, statement_fits}
use Rattle.statement.specs.Cut.{no_digest, no_label}
use Rattle.rules.specs.declared.Head.{Head}
use Rattle.rules.specs.Bundle.{most_blocks}

-- the finalise statement of a head and a table
abbrev pub said : Head → List ℕ → Statement
said h table =
    record { kind = Finalise; identity = h.identity; own = h.own; label = no_label; tail = no_digest; other = h.next; roll = roll_digest h.count table }

pub said_fits : (h : Head) (table : List ℕ) → statement_fits (said h table) ≡ true
unfolding all_zero handover_fits fits_as statement_fits
said_fits h table = refl

-- seven blocks at most
pub roll_room : (count : ℕ) (table : List ℕ) → rows_fit count table ≡ true → block_bytes * blocks count ≤ block_bytes * most_blocks
roll_room count table fit = omega (arith, blocks_within count (fit_count count table fit))
