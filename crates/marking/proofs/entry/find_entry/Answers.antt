use mathlib.Core.Path.{sym, ap, ap₂, ◌∙◌}
use native.Mathlib.Omega.{arith}
use Rattle.std.specs.Bool.{then_some}
use Rattle.bundle.specs.Lists.{list_number}
use Rattle.bundle.proofs.Listed.{numbered_is, numbered_none}
use Rattle.marking.proofs.Standing.{at_old, at_new, long_none, old_has, new_has, none_has}
use Rattle.marking.proofs.entry.find_entry.Goals as goal

pub returns-then-s-gt-LONGEST : goal.returns-then-s-gt-LONGEST
returns-then-s-gt-LONGEST c = let a = c.args in rw (long_none a.s.now a.list a.number c.if-s-gt-LONGEST.true)

pub returns-in-Ok-Old : goal.returns-in-Ok-Old
returns-in-Ok-Old c =
    let a = c.args in
    let e = numbered_is a.list _ c.in-Ok-Old.ensures ∙ ap list_number c.in-Ok-Old.field-0-is in
    c.old_entry.ensures
    ∙ ap₂ then_some (old_has a.s.now a.list a.number (omega (arith, c.if-s-gt-LONGEST.false)) e) (sym (at_old a.s.now a.list a.number e))

pub returns-in-Ok-New : goal.returns-in-Ok-New
returns-in-Ok-New c =
    let a = c.args in
    let e = numbered_is a.list _ c.in-Ok-New.ensures ∙ ap list_number c.in-Ok-New.field-0-is in
    c.new_entry.ensures
    ∙ ap₂ then_some (new_has a.s.now a.list a.number (omega (arith, c.if-s-gt-LONGEST.false)) e)
    (sym (at_new a.s.now a.list a.number (λ z. omega (arith, e, z))))

pub returns-in-Err : goal.returns-in-Err
returns-in-Err c =
    let a = c.args in
    let p = numbered_none a.list _ c.in-Err.ensures in
    rw (none_has a.s.now a.list a.number (omega (arith, c.if-s-gt-LONGEST.false)) p.0 p.1)
