use mathlib.Core.Path.{◌≡◌, sym, ap, ap₂, ◌∙◌}
use Prim.Native.Nat.{◌+◌}
use native.Mathlib.Omega.{arith}
use borrow.Author.Rules.{rules}
use lib.ListN.{length}
use Rattle.std.proofs.lemmas.List.{length_push}
use Rattle.night.specs.declared.Night.{Night}
use Rattle.night.specs.Pass.{step, passed}
use Rattle.night.proofs.Keeping.{kept_passed, passed-blocks}
use Rattle.night.proofs.Passes.{passed_next, passed_none, block_here, blocks_left, block_within, blocks_over}
use Rattle.night.proofs.Night.pass.Goals as goal

pub loop-block-init : goal.loop-block-init
loop-block-init c = (search rules, search rules, omega arith, sym (passed_none _ _))

pub step-requires : goal.step-requires
step-requires c =
    let n = c.args.self.now in
    let i = length c.loop-block.yielded in
    let k = c.loop-block.invariant in
    let e : c.loop-block.self.totals.blocks ≡ n.totals.blocks + i = ap (λ (m : Night). m.totals.blocks) k.3 ∙ passed-blocks n c.args.s.now i in
    let w = block_within c.args.s.now i _ k.1 c.in-Some.ensures.steps.1.2 in
    (rw k.3 (kept_passed n c.args.s.now c.requires.0 i), omega (arith, c.requires.1))

pub loop-block-preserved : goal.loop-block-preserved
loop-block-preserved c =
    let i = length c.loop-block.yielded in
    let s = c.args.s.now in
    let st = c.in-Some.ensures.steps in
    let k = c.loop-block.invariant in
    let here = block_here s i _ _ c.in-Some.block.now _ k.1 st.1.0 k.0 st.1.1 in
    rw (length_push c.loop-block.yielded c.in-Some.block) (
      st.0 ∙ k.0,
      blocks_left s i _ _ c.in-Some.block.now _ k.1 st.1.0 k.0 st.1.1,
      block_within s i _ k.1 st.1.2,
      c.step.ensures ∙ ap₂ step k.3 (sym here) ∙ sym (passed_next c.args.self.now s i),
    )

pub returns : goal.returns
returns c =
    let k = c.loop-block.invariant in
    k.3 ∙ ap (passed c.args.self.now c.args.s.now) (blocks_over c.args.s.now _ _ k.1 k.2 c.in-None.ensures.steps.1.0)
