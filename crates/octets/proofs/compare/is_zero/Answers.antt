use mathlib.Core.Bool.{Bool, ◌&&◌, and-true, and_assoc}
use mathlib.Core.Path.{sym, ap, ◌∙◌}
use Prim.Native.Nat.{◌+◌}
use native.Mathlib.Omega.{arith}
use lib.Dec.{eqb}
use lib.ListN.{drop, get_or}
use Rattle.octets.proofs.Compared.{neither, zero_step, zero_end}
use Rattle.octets.specs.Strings.{all_zero}
use Rattle.octets.proofs.compare.is_zero.Goals as goal

pub loop-b-preserved : goal.loop-b-preserved
loop-b-preserved c =
    let s = c.args.s.now in
    let l = c.loop-b in
    let rest = all_zero (drop (l.b-index + 1) s) in
    l.invariant
    ∙ ap (λ (p : Bool). eqb l.seen 0 && p) (zero_step s l.b-index (omega arith))
    ∙ sym (and_assoc (eqb l.seen 0) (eqb (get_or s l.b-index 0) 0) rest)
    ∙ sym (ap (λ (p : Bool). p && rest) (neither l.seen (get_or s l.b-index 0)))

pub returns : goal.returns
returns c =
    let l = c.loop-b in
    sym (l.invariant ∙ ap (λ (p : Bool). eqb l.seen 0 && p) (zero_end c.args.s.now l.b-index (omega arith)) ∙ and-true (eqb l.seen 0))
