use Rattle.std.proofs.Common.{◌≡◌, ◌+◌, ◌*◌, take, sym, ap, ◌∙◌, arith, take_all, rules}
use Rattle.hash.proofs.Stored.{joined_stored}
use Rattle.hash.specs.Digest.{joined}
use Rattle.hash.proofs.words.joined_words.Goals as goal

pub loop-i-init : goal.loop-i-init
unfolding joined
loop-i-init c = search rules

pub loop-i-preserved : goal.loop-i-preserved
loop-i-preserved c =
    let l = c.loop-i in
    let p = c.put_word in
    (omega (arith, p.auto.s), ap (take (4 * (l.i + 1))) p.ensures ∙ joined_stored c.args.h l.out l.i (omega arith) l.invariant.1)

pub returns : goal.returns
returns c =
    let l = c.loop-i in
    let e : l.i ≡ 8 = omega arith in
    sym (take_all 32 l.out (omega arith)) ∙ rw e at l.invariant.1
