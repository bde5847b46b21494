use mathlib.Core.Path.{◌≡◌, sym, ap, ◌∙◌}
use mathlib.Core.Bool.{not}
use mathlib.Core.List.{List}
use Prim.Native.Nat.{ℕ}
use borrow.Author.Tests.{not-true, not-false}
use Rattle.octets.specs.Strings.{same}
use Rattle.octets.proofs.Compared.{same_pointwise}
use Rattle.rack.specs.Racks.{rack_digest}
use Rattle.rack.proofs.RackTrips.{rack_whole}
use Rattle.rules.specs.Activate.{racks_differ}
use Rattle.handover.proofs.racks.racks_differ.Goals as goal
use Rattle.handover.proofs.racks.racks_differ.Goals.{After-ne}

-- what the comparison of the first digest says
theirs : (c : After-ne) → c.ne.result ≡ not (same (rack_digest c.args.previous.now) c.args.head.previous)
theirs c =
    let a = c.args in
    c.ne.ensures
    ∙ ap not (same_pointwise _ _ ∙ ap (λ (d : List ℕ). same d a.head.previous) (c.rack_digest.ensures ∙ ap rack_digest (rack_whole a.previous.now c.requires.0)))

pub returns-then-ne : goal.returns-then-ne
unfolding racks_differ
returns-then-ne c = rw (not-true _ (sym (theirs (goal.at.returns-then-ne c).After-ne) ∙ c.if-ne.true)) c.if-ne.true

pub returns-else-ne : goal.returns-else-ne
unfolding racks_differ
returns-else-ne c =
    let a = c.args in
    rw (not-false _ (sym (theirs (goal.at.returns-else-ne c).After-ne) ∙ c.if-ne.false))
    (c.ne-else-ne.ensures
    ∙ ap not (same_pointwise _ _ ∙ ap (λ (d : List ℕ). same d a.head.own) (c.rack_digest-else-ne.ensures ∙ ap rack_digest (rack_whole a.own.now c.requires.1))))
