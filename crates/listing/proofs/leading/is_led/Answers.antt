use mathlib.Core.Path.{sym, ◌∙◌}
use Rattle.listing.proofs.Led.{early_led}
use Rattle.listing.proofs.leading.is_led.Goals as goal

pub returns-then-is_early : goal.returns-then-is_early
returns-then-is_early c =
    let a = c.args in
    let p = c.requires in
    c.if-is_early.true ∙ sym (early_led a.e.now a.store.now p.0.rolls a.label a.n p.2 p.3 (sym c.is_early.ensures ∙ c.if-is_early.true))
