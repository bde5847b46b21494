use mathlib.Core.Path.{refl, sym, ◌∙◌}
use Rattle.rows.specs.Table.{each}
use Rattle.rows.proofs.Tables.{each_next}
use Rattle.rules.specs.Bundle.{added_fits}
use Rattle.bundle.proofs.Places.{list_step, new_before_lists}
use Rattle.bundle.proofs.Deciding.{list_fails, list_kept}
use native.Mathlib.Omega.{arith}
use Rattle.bundle.proofs.fitting.lists_fit.Goals as goal

pub first_list-at-requires : goal.first_list-at-requires
first_list-at-requires c = (omega (arith, new_before_lists c.args.s.now 0), c.requires.1)

pub loop-init : goal.loop-init
unfolding each
loop-init c =
    record { placed = c.first_list-at.ensures; near = omega (arith, c.first_list-at.ensures, c.requires.0, c.requires.1); fit = refl }

pub returns-then-not-list_fits : goal.returns-then-not-list_fits
returns-then-not-list_fits c =
    let a = c.args in
    let l = c.loop in
    sym (list_fails a.s.now l.counter l.at l.invariant.placed a.count (omega arith) (sym c.list_fits.ensures ∙ c.if-not-list_fits.true))

pub loop-preserved : goal.loop-preserved
loop-preserved c =
    let l = c.loop in
    let s = c.args.s.now in
    let k = list_kept s l.counter l.at l.invariant.placed (sym c.list_fits.ensures ∙ c.if-not-list_fits.false) in
    let q = list_step s l.counter l.at l.invariant.placed c.next_list-at.ensures in
    record { placed = q; near = omega (arith, q, k.near, c.requires.1); fit = each_next (added_fits s) l.counter l.invariant.fit k.few }
