use mathlib.Core.Path.{◌≡◌, sym, ap, ap₂, ◌∙◌}
use Prim.Native.Nat.{◌+◌, ◌/◌}
use lib.ListN.{length}
use lib.Dec.{eqb}
use Rattle.octets.specs.Strings.{same}
use Rattle.octets.proofs.Compared.{same_pointwise}
use Rattle.rows.specs.Row.{height_of}
use Rattle.derivation.proofs.Growths.{difference}
use Rattle.derivation.proofs.old.is_grown.Goals as goal
use Rattle.derivation.proofs.old.is_grown.Goals.{After-eq}

heights : (c : After-eq) → c.eq.result ≡ eqb (c.args.height + length c.args.s.now / 32) (height_of c.args.ours.now c.args.r)
heights c =
    let a = c.args in
    c.eq.ensures ∙ difference a.height _ _ c.checked_sub.result c.checked_sub.ensures ∙ ap (eqb (a.height + length a.s.now / 32)) c.height_at.ensures

pub returns-then-eq : goal.returns-then-eq
returns-then-eq c =
    rw (sym (heights (goal.at.returns-then-eq c).After-eq) ∙ c.if-eq.true)
    (c.eq-then-eq.ensures ∙ same_pointwise _ _ ∙ ap₂ same c.grown.ensures c.tail_at.ensures)

pub returns-else-eq : goal.returns-else-eq
returns-else-eq c = rw (sym (heights (goal.at.returns-else-eq c).After-eq) ∙ c.if-eq.false) c.if-eq.false
