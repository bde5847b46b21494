use mathlib.Core.Path.{◌≡◌, sym, ap, ◌∙◌}
use native.Mathlib.Nat.{zero-add}
use native.Mathlib.Omega.{arith}
use lib.ListN.{take, drop, drop_of_length-le}
use lib.Seq.{length-take-le}
use Rattle.night.specs.Lines.{new_line, no_line, place}
use Rattle.night.proofs.Lined.{place_here, place_further, place_end}
use Rattle.night.proofs.Night.place_of.Goals as goal

pub loop-i-init : goal.loop-i-init
loop-i-init c = sym (zero-add _)

pub returns-then-is_same : goal.returns-then-is_same
unfolding no_line new_line
returns-then-is_same c =
    let n = c.args.self.now in
    omega (arith, c.loop-i.invariant, place_here c.args.label (take n.known n.lines) c.loop-i.i c.loop-i-test.true (sym c.is_same.ensures ∙ c.if-is_same.true))

pub loop-i-preserved : goal.loop-i-preserved
unfolding no_line new_line
loop-i-preserved c =
    let n = c.args.self.now in
    omega (arith, c.loop-i.invariant, place_further c.args.label (take n.known n.lines) c.loop-i.i c.loop-i-test.true (sym c.is_same.ensures ∙ c.if-is_same.false))

pub returns : goal.returns
returns c =
    let n = c.args.self.now in
    let ls = take n.known n.lines in
    let e : place c.args.label (drop c.loop-i.i ls) ≡ 0 = ap (place c.args.label) (drop_of_length-le ls {i = c.loop-i.i} c.loop-i-test.false) ∙ place_end c.args.label in
    omega (arith, c.loop-i.invariant, c.loop-i.auto.i-end, length-take-le n.known n.lines (omega (arith, c.requires, c.well_formed)))
