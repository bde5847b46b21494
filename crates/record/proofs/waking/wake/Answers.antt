use mathlib.Core.Path.{◌≡◌, refl, ap}
use mathlib.Core.Bool.{false}
use mathlib.Core.List.{[]}
use native.Mathlib.Omega.{arith}
use borrow.Author.Tests.{eq-eqb, ne_eqb}
use lib.ListN.{length, replicate}
use Rattle.std.proofs.lemmas.Grind.{common_steps}
use Rattle.octets.specs.Strings.{put}
use Rattle.refusals.specs.declared.Refusal.TheVariants.{RecordNotSound}
use Rattle.refusals.specs.Order.{first}
use Rattle.rules.specs.declared.Head.{Head}
use Rattle.rules.specs.Wake.{waking}
use Rattle.rules.proofs.Tolds.{refused_alone, done_told}
use Rattle.record.proofs.waking.wake.Goals as goal

pub returns-then-table-ne-TABLE : goal.returns-then-table-ne-TABLE
unfolding first waking
returns-then-table-ne-TABLE c = rw (ne_eqb _ _ c.if-table-ne-TABLE.true) (refused_alone _ RecordNotSound _ 0 _ refl refl)

pub returns : goal.returns
unfolding first put waking
returns c =
    let cleared : c.fill.new.self ≡ replicate (length c.args.table.now) 0 = grind (arith, common_steps) in
    rw (eq-eqb _ _ c.if-table-ne-TABLE.false)
    (done_told _ _ 0 0 [] _ _ _ _ refl (ap (λ (h : Head). record { written = 0; repeat = false; head = h }) c.woken.ensures) cleared refl)
