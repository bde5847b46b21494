use mathlib.Core.Path.{refl, sym, ap}
use mathlib.Core.Bool.{false}
use mathlib.Core.List.{[]}
use Rattle.octets.specs.Strings.{put}
use Rattle.rules.specs.declared.Head.{Head}
use Rattle.rules.specs.Outcomes.{Lent}
use Rattle.rules.specs.Activate.{activating}
use Rattle.rules.proofs.Tolds.{refused_alone, done_told, handed_on}
use Rattle.handover.proofs.Cascades.{activate_other}
use Rattle.handover.proofs.activating.activate.Goals as goal

pub returns-in_err-check_activate : goal.returns-in_err-check_activate
unfolding activating
returns-in_err-check_activate c =
    let a = c.args in
    let k : Lent = record { head = a.head; table = a.table.now; area = [] } in
    rw (handed_on _ _ c.from_residual.ensures.1)
    (refused_alone k _ _ 0 _ c.in_err-check_activate.ensures (activate_other k a.previous.now a.own.now a.s.now))

pub returns : goal.returns
unfolding put activating
returns c =
    let a = c.args in
    let k : Lent = record { head = a.head; table = a.table.now; area = [] } in
    done_told k _ _ 0 [] _ _ _ _ (sym c.in_ok-check_activate.ensures)
    (ap (λ (h : Head). record { written = 0; repeat = false; head = h }) c.acting.ensures) refl refl
