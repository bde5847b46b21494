use Rattle.std.proofs.Common.{◌≡◌, sym, ◌∙◌, arith, length-set, take_all, rules}
use Rattle.hash.proofs.Stored.{words_stored}
use Rattle.hash.specs.Padding.{words}
use Rattle.hash.proofs.chunk.fill.Goals as goal

pub loop-t-init : goal.loop-t-init
unfolding words
loop-t-init c = search rules

pub loop-t-preserved : goal.loop-t-preserved
loop-t-preserved c =
    let l = c.loop-t in
    (simp length-set l.invariant.0, words_stored 4 c.args.chunk.now l.w l.t c.word_at.result (omega arith) l.invariant.1 c.word_at.ensures)

pub returns : goal.returns
returns c =
    let l = c.loop-t in
    let e : l.t ≡ 16 = omega arith in
    sym (take_all 16 l.w (omega arith)) ∙ (rw e at l.invariant.1)
