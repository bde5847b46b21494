use mathlib.Core.Path.{◌≡◌, sym, ap, ◌∙◌}
use mathlib.Core.List.{List}
use Prim.Native.Nat.{ℕ, ◌+◌}
use native.Mathlib.Numerals.{add-one}
use native.Mathlib.Omega.{arith}
use lib.ListN.{length, get_or, set}
use lib.Seq.{paste, paste-suc}
use Rattle.octets.proofs.Puts.{put-paste}
use Rattle.octets.proofs.copy.copy_at.Goals as goal

pub loop-i-preserved : goal.loop-i-preserved
loop-i-preserved c =
    let a = c.args in
    let l = c.loop-i in
    ap (λ (d : List ℕ). set d (a.at + l.i) (get_or a.src.now l.i 0)) l.invariant
    ∙ paste-suc a.dst.now a.at a.src.now l.i 0 (omega arith) (omega arith)
    ∙ ap (paste a.dst.now a.at a.src.now) (sym (add-one l.i))

pub returns : goal.returns
returns c =
    let a = c.args in
    let l = c.loop-i in
    let e : l.i ≡ length a.src.now = omega arith in
    l.invariant ∙ ap (paste a.dst.now a.at a.src.now) e ∙ put-paste a.dst.now a.at a.src.now
