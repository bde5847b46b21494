use mathlib.Core.Path.{◌≡◌, ap, ◌∙◌}
use mathlib.Core.List.{List}
use Prim.Native.Nat.{ℕ, ◌+◌, ◌*◌}
use native.Mathlib.Omega.{arith}
use borrow.Author.Rules.{rules}
use lib.ListN.{length}
use Rattle.octets.specs.Numbers.{bytes_of}
use Rattle.octets.specs.Strings.{put}
use Rattle.octets.proofs.Numbers.{bytes_length}
use Rattle.octets.proofs.Puts.{put-put}
use Rattle.rules.specs.Table.{moved}
use Rattle.appending.proofs.table.move_row.Goals as goal

pub returns : goal.returns
unfolding moved
returns c =
    let a = c.args in
    let at : ℕ = 56 * a.i + 16 in
    let n : length a.tail ≡ 32 = search rules in
    c.put_number.ensures ∙ ap (λ (t : List ℕ). put t (at + 32) (bytes_of 8 a.height)) c.copy_at.ensures
    ∙ put-put a.table.now at a.tail (bytes_of 8 a.height) (at + 32) (omega arith) (omega (arith, bytes_length 8 a.height))
