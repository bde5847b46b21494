use Prim.Native.Nat.{ℕ, ◌*◌, ◌+◌, ◌<◌}
use mathlib.Core.Path.{◌∙◌, ap₂}
use mathlib.Core.Bool.{false≢true}
use mathlib.Core.List.{List}
use lib.ListN.{set, length-set}
use lib.Seq.{get_or-set_same, get_or-set_other}
use borrow.Author.Count.{below_more, below_none}
use borrow.Author.Rules.{rules}
use borrow.Author.Tests.{leb-false}
use native.Mathlib.Omega.{arith}
use Rattle.hexes.specs.Digits.{SpelledAt}
use Rattle.hexes.proofs.decode.Goals as goal

-- a byte that is stored leaves the others spelled
kept : {digits out : List ℕ} (i k v : ℕ) → k < i → SpelledAt digits out k → SpelledAt digits (set out i v) k
kept {digits} {out} i k v l s =
    record { high = s.high; low = s.low; byte = get_or-set_other out i k v 0 (λ e. omega arith) ∙ s.byte }

pub loop-i-preserved : goal.loop-i-preserved
loop-i-preserved c =
    let l = c.loop-i in
    let high = c.in-Some-Some.ensures in
    let low = c.in-Some-Some.ensures' in
    let v = 16 * c.in-Some-Some.high + c.in-Some-Some.low in
    let here : SpelledAt c.args.digits.now (set l.out l.i v) l.i =
    record {
      high = rw (← high.value) high.digit;
      low = rw (← low.value) low.digit;
      byte = get_or-set_same l.out l.i v 0 (omega arith) ∙ ap₂ (λ (a b : ℕ). 16 * a + b) high.value low.value;
    }
    in
    (simp length-set (search rules), search rules, below_more _ _ (λ k h. kept l.i k v h (l.invariant.2 k h)) here)
