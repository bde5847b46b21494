use Rattle.std.proofs.Common.{◌≡◌, ◌++◌, ◌+◌, ◌*◌, ◌≤◌, length, take}
use Rattle.report.specs.Printed.{lines_text}
use Rattle.report.proofs.page.Page.put_lines.Given as goal

abbrev pub invariant-loop-line : goal.invariant-loop-line
invariant-loop-line l =
    (l.self ≡ l.initial.self ++ lines_text (take l.line-index l.lines)) × (length l.self ≤ length l.initial.self + 96 * l.line-index)
