use mathlib.Core.Path.{ap, ◌∙◌}
use mathlib.Core.List.{List}
use Prim.Native.Nat.{ℕ}
use Rattle.octets.specs.Strings.{same}
use Rattle.rows.proofs.Rows.{label_part}
use Rattle.rows.proofs.search.has_label.Goals as goal

pub returns : goal.returns
returns c =
    let a = c.args in
    c.is_same.ensures ∙ ap (λ (l : List ℕ). same l a.label.now) (label_part a.rows.now a.i)
