use mathlib.Core.Path.{sym, ap, ◌∙◌}
use Prim.Native.Nat.{ℕ, ◌+◌, ◌*◌}
use Rattle.rules.specs.Bundle.{byte}
use Rattle.bundle.proofs.Places.{list_first}
use Rattle.bundle.proofs.walks.first_list.Goals as goal

pub returns : goal.returns
returns c =
    let s = c.args.s.now in
    ap (λ (x : ℕ). x + (1 + 2 * byte s x)) c.new_at-at.ensures ∙ sym (list_first s)
