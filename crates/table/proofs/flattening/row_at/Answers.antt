use mathlib.Core.Path.{◌≡◌, ap, ◌∙◌}
use Prim.Native.Nat.{ℕ, ◌+◌, ◌-◌, ◌*◌}
use native.Mathlib.Omega.{arith}
use lib.ListN.{take, drop}
use Rattle.table.specs.Flat.{row_cut}
use Rattle.table.proofs.flattening.row_at.Goals as goal

pub returns : goal.returns
returns c =
    let a = c.args in
    let e : 56 * a.i + 56 - 56 * a.i ≡ 56 = omega arith in
    c.row_cut.ensures ∙ ap (λ (k : ℕ). row_cut (take k (drop (56 * a.i) a.bytes.now))) e
