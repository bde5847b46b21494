use mathlib.Core.Path.{ap, ap₂, ◌∙◌}
use mathlib.Core.List.{List}
use Prim.Native.Nat.{ℕ}
use Rattle.rules.specs.declared.Head.{Head}
use Rattle.rules.specs.Outcomes.{given}
use Rattle.rules.specs.Initialise.{initialise_statement, preparing, entered}
use Rattle.entering.specs.Parts.{taking_over}
use Rattle.entering.proofs.entry.take_over.Goals as goal

pub returns : goal.returns
unfolding entered taking_over
returns c =
    let prepares = c in
    let took = prepares.take_rows-count.ensures in
    let a = c.args in
    let area : List ℕ = a.area.now in
    c.enter.ensures
    ∙ ap₂ (λ (h : Head) (t : List ℕ). given (initialise_statement h t) h t area)
    (prepares.preparing-next.ensures ∙ ap (λ (n : ℕ). preparing a.head a.identity n a.previous.now a.own.now) took.0)
    took.1
