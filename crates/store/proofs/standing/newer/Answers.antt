use mathlib.Core.Path.{sym, ap₂, ◌∙◌}
use mathlib.Core.List.{List}
use Prim.Native.Nat.{ℕ}
use native.Mathlib.Omega.{arith}
use Rattle.cabinet.specs.Block.{label_in, height_in, tail_in}
use Rattle.store.proofs.Places.{newer_stays, newer_other, newer_moves}
use Rattle.store.proofs.standing.newer.Goals as goal

pub returns-then-height-found : goal.returns-then-height-found
unfolding height_in
returns-then-height-found c =
    let a = c.args in
    sym (newer_stays a.label.now a.found a.b.now (omega (arith, c.number_at-height.ensures)))

pub returns-then-not-is_same : goal.returns-then-not-is_same
unfolding label_in
returns-then-not-is_same c =
    let a = c.args in
    sym (newer_other a.label.now a.found a.b.now (sym c.is_same.ensures ∙ c.if-not-is_same.true))

pub returns : goal.returns
unfolding height_in label_in tail_in
returns c =
    let a = c.args in
    ap₂ (λ (k : ℕ) (l : List ℕ). record { height = k; tail = l }) c.number_at-height.ensures c.array_at.ensures
    ∙ sym (newer_moves a.label.now a.found a.b.now (omega (arith, c.number_at-height.ensures, c.if-height-found.false)) (sym c.is_same.ensures ∙ c.if-not-is_same.false))
