use mathlib.Core.Path.{ap, ◌∙◌}
use mathlib.Core.List.{List}
use Prim.Native.Nat.{ℕ, ◌≤◌, ◌/◌}
use borrow.Author.Tests.{le-leb}
use lib.ListN.{length}
use Rattle.marks.specs.Entries.{entries_fit, pair_position, pair_marks}
use Rattle.rules.specs.Bundle.{new_entries, list_at}
use Rattle.bundle.proofs.Places.{new_half}
use native.Mathlib.Omega.{arith}
use Rattle.bundle.proofs.fitting.new_entries_fit.Goals as goal

pub returns-then-first_list-s : goal.returns-then-first_list-s
returns-then-first_list-s c =
    let a = c.args in
    let s = a.s.now in
    let w : list_at s 0 ≤ length s = omega (arith, c.first_list.ensures) in
    rw (le-leb (list_at s 0) (length s) w)
    (c.entries_fit.ensures
    ∙ ap (λ (l : List ℕ). entries_fit a.m (pair_position l) (pair_marks l) (length l / 2)) c.new_entries.ensures
    ∙ ap (λ (k : ℕ). entries_fit a.m (pair_position (new_entries s)) (pair_marks (new_entries s)) k) (new_half s w))
