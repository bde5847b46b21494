use mathlib.Core.Path.{sym, ap₂, ◌∙◌}
use Prim.Native.Nat.{ℕ}
use lib.ListN.{replicate}
use Rattle.std.proofs.Common.{rules}
use Rattle.table.specs.declared.Row.{Row}
use Rattle.table.proofs.RowsPut.{blank_each}
use Rattle.table.proofs.lent.rows_clear.Goals as goal

pub returns : goal.returns
returns c =
    c.fill.ensures.after (λ y h. search rules)
    ∙ ap₂ (λ (n : ℕ) (row : Row). replicate n row) c.requires c.blank_row.ensures
    ∙ sym blank_each
