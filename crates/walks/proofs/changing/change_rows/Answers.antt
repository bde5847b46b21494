-- By the law of the calls that change rows.
use native.Mathlib.Omega.{arith}
use Prim.Native.Nat.{ℕ}
use lib.ListN.{length-replicate}
use Rattle.std.proofs.Common.{rules}
use Rattle.rows.specs.Sizes.{table_bytes}
use Rattle.table.proofs.HeldRows.{leaves_bounds}
use Rattle.walks.proofs.Laws.{refused, changed}
use Rattle.walks.proofs.changing.change_rows.Goals.{in-Some, in_default}
use Rattle.walks.proofs.changing.change_rows.Goals as goal

pub returns-then-rows-ne-MOST : goal.returns-then-rows-ne-MOST
returns-then-rows-ne-MOST g c =
    let a = c.args in
    let ts = c.rows_typed.ensures in
    let other = c.if-rows-ne-MOST.true in
    refused (g.C.ChangesRows.rule a.call) a.h.now a.rows.now a.area.now ts g.C.ChangesRows.size _ other
    (g.met.C.ChangesRows.refuses a.call a.h.now a.rows.now a.area.now ts other) (rw c.size.ensures at c.other_length.ensures)

pub rows_out-requires : goal.rows_out-requires
rows_out-requires g c =
    let bounds = leaves_bounds c.left-left.result _ _ _ _ c.left-left.ensures in
    (c.if-rows-ne-MOST.false, omega (arith, length-replicate {A = ℕ} table_bytes 0), bounds.0, bounds.1)

pub returns : goal.returns
returns g c =
    let a = c.args in
    changed (g.C.ChangesRows.rule a.call) a.h.now a.rows.now a.area.now c.rows_typed.ensures c.if-rows-ne-MOST.false _ _ c.flat_in.ensures _
    c.left-left.result c.match-left.h _ c.left-left.ensures (elim c.match-left.branch [ in-Some w ↦ search rules | in_default w ↦ search rules ])
    c.rows_out.ensures
