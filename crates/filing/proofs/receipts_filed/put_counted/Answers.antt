use Rattle.octets.specs.Strings.{put}
use mathlib.Core.Path.{ap, ◌∙◌}
use Prim.Native.Nat.{ℕ, ◌+◌}
use Rattle.filing.proofs.Filing.{counted_put}
use mathlib.Core.List.{List}
use Rattle.filing.proofs.receipts_filed.put_counted.Goals as goal

pub returns : goal.returns
returns c =
    let o = c in
    let a = o.args in
    c.copy_at-2.ensures ∙ ap (λ (x : List ℕ). put x (a.at + 1) a.s.now) c.copy_at.ensures ∙ counted_put a.body.now a.at a.count a.s.now o.requires
