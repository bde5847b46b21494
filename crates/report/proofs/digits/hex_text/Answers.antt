use Rattle.report.specs.Text.{hex_of}
use native.Mathlib.Omega.{arith}
use lib.Seq.{take_all}
use lib.ListN.{length, length-set}
use Prim.Native.Nat.{◌*◌}
use Rattle.report.proofs.Texts.{hex_stored}
use mathlib.Core.Path.{◌≡◌, refl, sym, ap, ◌∙◌}
use Rattle.report.proofs.digits.hex_text.Goals as goal

pub loop-i-init : goal.loop-i-init
unfolding hex_of
loop-i-init c = (refl, refl)

pub loop-i-preserved : goal.loop-i-preserved
loop-i-preserved c =
    let l = c.loop-i in
    let a = c.args in
    let n : length a.label ≡ 16 = omega (arith, c.well_formed.0) in (
      simp length-set l.invariant.0,
      hex_stored l.text a.label l.i c.digit.result c.digit-in-loop-i.result (omega arith) (omega arith) l.invariant.1 c.digit.ensures c.digit-in-loop-i.ensures,
    )

pub returns : goal.returns
returns c =
    let l = c.loop-i in
    let a = c.args in
    let n : length a.label ≡ 16 = omega (arith, c.well_formed.0) in
    sym (take_all (2 * l.i) l.text (omega arith)) ∙ l.invariant.1 ∙ ap hex_of (take_all l.i a.label (omega arith))
