use mathlib.Core.List.{append_assoc}
use lib.ListN.{take, length-take}
use Rattle.std.proofs.Common.{arith, ◌≡◌, ◌++◌, ◌+◌, ◌≤◌, length, ap, subst, ◌∙◌}
use Rattle.report.specs.Text.{Placed}
use Rattle.report.specs.Printed.{heading, lines_text, totals_text, printed}
use Rattle.report.proofs.Texts.{appended_short, totals_short}
use Rattle.report.proofs.printing.print.Goals as goal

pub write-requires : goal.write-requires
write-requires c =
    let n = c.args.night.now in
    let z : length c.new-page.result ≡ 0 = ap length c.new-page.ensures in
    let p : length c.put.new.self ≤ length c.new-page.result + 27 = appended_short _ _ _ 27 c.put.ensures (omega arith) in
    let l : length c.put_lines.new.self ≤ length c.put.new.self + 6048 =
    omega (arith, c.put_lines.ensures.upper_bound, c.requires.0, length-take n.known n.lines) in
    let t : length c.put_totals.new.self ≤ length c.put_lines.new.self + 110 = appended_short _ _ _ 110 c.put_totals.ensures (totals_short _) in
    omega (arith, c.requires.1)

pub returns-clause-placed : goal.returns-clause-placed
unfolding printed
returns-clause-placed c =
    let n = c.args.night.now in
    let lines = lines_text (take n.known n.lines) in
    let front : c.put.new.self ≡ heading = c.put.ensures ∙ ap (λ s. s ++ heading) c.new-page.ensures in
    let body : c.put_lines.new.self ≡ heading ++ lines = c.put_lines.ensures.text ∙ ap (λ s. s ++ lines) front in
    let whole : c.put_totals.new.self ≡ heading ++ (lines ++ totals_text n.totals) =
    c.put_totals.ensures ∙ ap (λ s. s ++ totals_text n.totals) body ∙ append_assoc heading lines (totals_text n.totals) in
    subst (λ s. Placed c.write.result 0 c.args.area.now c.write.new.area s) whole c.write.ensures

pub returns-clause-upper_bound : goal.returns-clause-upper_bound
returns-clause-upper_bound c =
    let n = c.args.night.now in
    let z : length c.new-page.result ≡ 0 = ap length c.new-page.ensures in
    let p : length c.put.new.self ≤ length c.new-page.result + 27 = appended_short _ _ _ 27 c.put.ensures (omega arith) in
    let l : length c.put_lines.new.self ≤ length c.put.new.self + 6048 =
    omega (arith, c.put_lines.ensures.upper_bound, c.requires.0, length-take n.known n.lines) in
    let t : length c.put_totals.new.self ≤ length c.put_lines.new.self + 110 = appended_short _ _ _ 110 c.put_totals.ensures (totals_short _) in
    omega (arith, c.write.ensures.next)
