use mathlib.Core.Path.{◌≡◌, ap, ◌∙◌}
use mathlib.Core.List.{List, ◌++◌}
use Prim.Native.Nat.{ℕ}
use native.Mathlib.Omega.{arith}
use lib.ListN.{length, replicate, length-append}
use Rattle.octets.specs.Numbers.{bytes_of}
use Rattle.octets.specs.Strings.{put}
use Rattle.octets.proofs.Numbers.{bytes_length}
use Rattle.octets.proofs.Puts.{put-put, put_all}
use Rattle.interface.proofs.kinds.nonce_of.Goals as goal

pub returns : goal.returns
returns c =
    let a = c.args in
    let h : List ℕ = bytes_of 8 a.high in
    let l : List ℕ = bytes_of 8 a.low in
    let p : length h ≡ 8 = bytes_length 8 a.high in
    let q : length l ≡ 8 = bytes_length 8 a.low in
    c.put_number-2.ensures ∙ ap (λ (s : List ℕ). put s 8 l) c.put_number.ensures
    ∙ put-put (replicate 16 0) 0 h l 8 (omega arith) (omega arith) ∙ put_all (replicate 16 0) (h ++ l) (length-append h l ∙ omega arith)
