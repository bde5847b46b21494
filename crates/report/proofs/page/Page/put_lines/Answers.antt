use mathlib.Core.List.{append_assoc, append-nil}
use native.Mathlib.Numerals.{add-one}
use lib.Seq.{take_all, take-suc}
use lib.ListN.{get_or, take}
use Rattle.std.proofs.Common.{arith, ◌≡◌, ◌++◌, ◌+◌, sym, ap, ◌∙◌}
use Rattle.night.specs.Lines.{new_line, no_line}
use Rattle.report.specs.Printed.{line_text, lines_text}
use Rattle.report.proofs.Texts.{lines_more}
use Rattle.report.proofs.page.Page.put_lines.Goals as goal

pub loop-line-init : goal.loop-line-init
unfolding lines_text
loop-line-init c = (sym (append-nil _), omega arith)

pub loop-line-preserved : goal.loop-line-preserved
unfolding no_line new_line
loop-line-preserved c =
    let l = c.loop-line in
    let lines = c.args.lines.now in
    let i = l.line-index in
    let line = get_or lines i no_line in
    let text : lines_text (take (i + 1) lines) ≡ lines_text (take i lines) ++ line_text line =
    rw (add-one i, take-suc lines i no_line (omega arith)) (lines_more (take i lines) line) in (
      rw text (c.put_line.ensures.text ∙ ap (λ s. s ++ line_text line) l.invariant.0 ∙ append_assoc c.args.self.now (lines_text (take i lines)) (line_text line)),
      omega (arith, c.put_line.ensures.upper_bound, l.invariant.1),
    )

pub returns-clause-text : goal.returns-clause-text
returns-clause-text c = rw (take_all c.loop-line.line-index c.args.lines.now c.loop-line-test.false) at c.loop-line.invariant.0
