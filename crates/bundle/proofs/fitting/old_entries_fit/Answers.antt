use mathlib.Core.Path.{◌≡◌, refl, sym, ap, ◌∙◌}
use mathlib.Core.Bool.{true}
use Prim.Native.Nat.{ℕ, ◌+◌}
use lib.ListN.{length}
use lib.Dec.{ltb}
use Rattle.marks.specs.Entries.{entries_fit}
use Rattle.marks.proofs.Listed.{lowest, lowest_next, one_more}
use Rattle.rows.specs.Table.{each}
use Rattle.rows.proofs.Tables.{each_next}
use Rattle.rules.specs.Bundle.{byte, old_count, old_at, old_position, old_marks, blocks_fit, new_at}
use Rattle.bundle.proofs.Places.{old_step}
use Rattle.bundle.proofs.Deciding.{old_fails, old_kept}
use native.Mathlib.Omega.{arith}
use Rattle.bundle.proofs.fitting.old_entries_fit.Goals as goal

pub loop-init : goal.loop-init
unfolding old_at lowest entries_fit each
loop-init c = record { placed = refl; lower = refl; near = omega arith; entries = refl; blocks = refl }

pub returns-then-not-old_entry_fits : goal.returns-then-not-old_entry_fits
returns-then-not-old_entry_fits c =
    let a = c.args in
    let l = c.loop in
    sym (old_fails a.n a.s.now l.counter l.at l.low l.invariant.placed l.invariant.lower (omega (arith, c.old_count-end.ensures))
    (sym c.old_entry_fits.ensures ∙ c.if-not-old_entry_fits.true))

pub loop-preserved : goal.loop-preserved
loop-preserved c =
    let a = c.args in
    let l = c.loop in
    let s = a.s.now in
    let k = old_kept a.n s l.counter l.at l.low l.invariant.placed l.invariant.lower (sym c.old_entry_fits.ensures ∙ c.if-not-old_entry_fits.false) in
    let q = old_step s l.counter l.at l.invariant.placed c.next_old-at.ensures in
    let next = ap (λ (x : ℕ). byte s x + 1) l.invariant.placed ∙ sym (lowest_next (old_position s) l.counter) in record {
      placed = q;
      lower = next;
      near = omega (arith, q, k.near, c.requires.1);
      entries = one_more a.n (old_position s) (old_marks s) l.counter l.invariant.entries k.entry;
      blocks = each_next (blocks_fit s) l.counter l.invariant.blocks k.blocks;
    }

pub returns : goal.returns
unfolding new_at
returns c =
    let a = c.args in
    let l = c.loop in
    let s = a.s.now in
    let e : l.counter ≡ old_count s = omega (arith, c.old_count-end.ensures) in
    let f : entries_fit a.n (old_position s) (old_marks s) (old_count s) ≡ true = rw e at l.invariant.entries in
    let g : each (blocks_fit s) (old_count s) ≡ true = rw e at l.invariant.blocks in
    rw (f, g) (ap (λ (x : ℕ). ltb x (length s)) (l.invariant.placed ∙ ap (old_at s) e))
