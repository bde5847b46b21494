use mathlib.Core.Path.{◌≡◌, ap, ◌∙◌}
use mathlib.Core.List.{List, ◌++◌}
use Prim.Native.Nat.{ℕ, ◌+◌, ◌*◌}
use native.Mathlib.Omega.{arith}
use lib.ListN.{length, length-append}
use Rattle.octets.specs.Numbers.{bytes_of}
use Rattle.octets.specs.Strings.{put}
use Rattle.octets.proofs.Numbers.{bytes_length}
use Rattle.octets.proofs.Puts.{put-put}
use Rattle.table.specs.Flat.{row_string}
use Rattle.table.proofs.RowTypes.{typed_row}
use Rattle.table.proofs.flattening.put_row.Goals as goal

pub returns : goal.returns
unfolding row_string
returns c =
    let a = c.args in
    let t = typed_row a.row _ c.well_formed.1.1.0 in
    let at : ℕ = 56 * a.i in
    let l : List ℕ = a.row.label in
    let m : List ℕ = a.row.tail in
    let n : List ℕ = bytes_of 8 a.row.height in
    let k : length n ≡ 8 = bytes_length 8 a.row.height in
    c.put_number.ensures
    ∙ ap (λ (s : List ℕ). put s (at + 16 + 32) n) (c.copy_at-2.ensures ∙ ap (λ (s : List ℕ). put s (at + 16) m) c.copy_at.ensures
    ∙ put-put a.bytes.now at l m (at + 16) (omega (arith, t.label)) (omega (arith, t.label, t.tail)))
    ∙ put-put a.bytes.now at (l ++ m) n (at + 16 + 32) (omega (arith, t.label, t.tail, length-append l m)) (omega (arith, t.label, t.tail, length-append l m))
