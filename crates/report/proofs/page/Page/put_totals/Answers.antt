use Rattle.std.proofs.Common.{arith, ◌++◌, ◌+◌, ◌≤◌, length}
use Rattle.report.specs.Text.{decimal_of}
use Rattle.report.specs.Printed.{newline, blocks_name, racks_name, over_name, damaged_name, totals_text}
use Rattle.report.proofs.Texts.{appended_short, named_short, totals_parts}
use Rattle.report.proofs.page.Page.put_totals.Goals as goal

pub put_named-requires-2 : goal.put_named-requires-2
put_named-requires-2 c =
    let a : length c.put_named.new.self ≤ length c.args.self.now + 27 = appended_short _ _ _ 27 c.put_named.ensures (named_short blocks_name c.args.totals.blocks) in
    omega (arith, c.requires)

pub put_named-requires-3 : goal.put_named-requires-3
put_named-requires-3 c =
    let a : length c.put_named.new.self ≤ length c.args.self.now + 27 = appended_short _ _ _ 27 c.put_named.ensures (named_short blocks_name c.args.totals.blocks) in
    let b : length c.put_named-2.new.self ≤ length c.put_named.new.self + 27 = appended_short _ _ _ 27 c.put_named-2.ensures (named_short racks_name c.args.totals.racks) in
    omega (arith, c.requires)

pub put_named-requires-4 : goal.put_named-requires-4
put_named-requires-4 c =
    let a : length c.put_named.new.self ≤ length c.args.self.now + 27 = appended_short _ _ _ 27 c.put_named.ensures (named_short blocks_name c.args.totals.blocks) in
    let b : length c.put_named-2.new.self ≤ length c.put_named.new.self + 27 = appended_short _ _ _ 27 c.put_named-2.ensures (named_short racks_name c.args.totals.racks) in
    let d : length c.put_named-3.new.self ≤ length c.put_named-2.new.self + 26 = appended_short _ _ _ 26 c.put_named-3.ensures (named_short over_name c.args.totals.over) in
    omega (arith, c.requires)

pub put-requires : goal.put-requires
put-requires c =
    let a : length c.put_named.new.self ≤ length c.args.self.now + 27 = appended_short _ _ _ 27 c.put_named.ensures (named_short blocks_name c.args.totals.blocks) in
    let b : length c.put_named-2.new.self ≤ length c.put_named.new.self + 27 = appended_short _ _ _ 27 c.put_named-2.ensures (named_short racks_name c.args.totals.racks) in
    let d : length c.put_named-3.new.self ≤ length c.put_named-2.new.self + 26 = appended_short _ _ _ 26 c.put_named-3.ensures (named_short over_name c.args.totals.over) in
    let e : length c.put_named-4.new.self ≤ length c.put_named-3.new.self + 29 = appended_short _ _ _ 29 c.put_named-4.ensures (named_short damaged_name c.args.totals.damaged) in
    omega (arith, c.requires)

pub returns : goal.returns
unfolding totals_text
returns c =
    let t = c.args.totals in
    rw (c.put.ensures, c.put_named-4.ensures, c.put_named-3.ensures, c.put_named-2.ensures, c.put_named.ensures)
    (totals_parts c.args.self.now (blocks_name ++ decimal_of t.blocks) (racks_name ++ decimal_of t.racks) (over_name ++ decimal_of t.over)
    (damaged_name ++ decimal_of t.damaged) newline)
