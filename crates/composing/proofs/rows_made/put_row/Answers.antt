use mathlib.Core.Path.{ap, ◌∙◌}
use mathlib.Core.List.{List}
use Prim.Native.Nat.{ℕ, ◌+◌, ◌*◌}
use native.Mathlib.Omega.{arith}
use Rattle.octets.specs.Numbers.{bytes_of}
use Rattle.octets.specs.Strings.{put}
use Rattle.composing.proofs.Placed.{row_put}
use Rattle.composing.proofs.rows_made.put_row.Goals as goal

pub returns : goal.returns
returns c =
    let a = c.args in
    let p = c.requires in
    let at : ℕ = 56 * a.r in
    c.put_number.ensures
    ∙ ap (λ (x : List ℕ). put x (at + 16 + 32) (bytes_of 8 a.row.height))
    (c.copy_at-2.ensures
    ∙ ap (λ (x : List ℕ). put x (at + 16) a.row.tail)
    c.copy_at.ensures)
    ∙ row_put a.table.now a.label a.row.tail a.row.height at p.2 p.3 (omega (arith, p.0, p.1))
