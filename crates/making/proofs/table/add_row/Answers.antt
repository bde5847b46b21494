use mathlib.Core.Path.{◌≡◌, ap, ◌∙◌}
use mathlib.Core.List.{List, ◌++◌}
use Prim.Native.Nat.{ℕ, ◌*◌}
use native.Mathlib.Omega.{arith}
use borrow.Author.Rules.{rules}
use lib.ListN.{length, take, drop}
use Rattle.octets.specs.Strings.{put}
use Rattle.rules.specs.Table.{widened}
use Rattle.making.proofs.Tables.{put_in}
use Rattle.making.proofs.table.add_row.Goals as goal

pub returns : goal.returns
unfolding widened
returns c =
    let t : List ℕ = c.args.table.now in
    let at : ℕ = 56 * c.args.i in
    let row : List ℕ = c.new_row.result in
    let long : length row ≡ 56 = search rules in
    c.copy_at.ensures ∙ ap (λ (x : List ℕ). put x at row) c.copy_within.ensures.after
    ∙ put_in t row at (omega (arith, c.requires.0)) c.requires.1 long
    ∙ ap (λ (x : List ℕ). take (length t) (take at t ++ x ++ drop at t)) c.new_row.ensures
