use Rattle.std.proofs.Common.{arith, ◌≤◌, ◌∙◌}
use Rattle.report.specs.Text.{decimal_of}
use Rattle.report.proofs.Texts.{fewest_few, fewest_digits}
use Rattle.report.proofs.page.Page.put_decimal.Goals as goal

pub returns : goal.returns
unfolding decimal_of
returns c =
    let n = c.args.n in
    let d = c.decimal-k in
    let few : d.result ≤ 20 = fewest_few d.result n (omega (arith, c.ranges)) d.ensures.len.2 in
    let e = d.ensures.digits ∙ fewest_digits 20 d.result n d.ensures.len.0 few d.ensures.len.1 d.ensures.len.2 in
    rw e at c.put.ensures
