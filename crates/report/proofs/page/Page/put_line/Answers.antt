use Rattle.std.proofs.Common.{arith, ◌∷◌, [], ◌+◌, ◌≤◌, length}
use Rattle.report.specs.Text.{hex_of}
use Rattle.report.specs.Printed.{newline, spaced, top_text, line_text}
use Rattle.report.proofs.Texts.{appended_short, named_short, top_short, line_parts}
use Rattle.report.proofs.page.Page.put_line.Goals as goal

pub put_named-requires-2 : goal.put_named-requires-2
put_named-requires-2 c =
    let a : length c.put.new.self ≤ length c.args.self.now + 32 = appended_short _ _ _ 32 c.put.ensures (omega (arith, c.hex_text.type_inv)) in
    let b : length c.put_named.new.self ≤ length c.put.new.self + 21 = appended_short _ _ _ 21 c.put_named.ensures (named_short (32 ∷ []) c.args.line.accepted) in
    omega (arith, c.requires)

pub put_top-requires : goal.put_top-requires
put_top-requires c =
    let a : length c.put.new.self ≤ length c.args.self.now + 32 = appended_short _ _ _ 32 c.put.ensures (omega (arith, c.hex_text.type_inv)) in
    let b : length c.put_named.new.self ≤ length c.put.new.self + 21 = appended_short _ _ _ 21 c.put_named.ensures (named_short (32 ∷ []) c.args.line.accepted) in
    let d : length c.put_named-2.new.self ≤ length c.put_named.new.self + 21 = appended_short _ _ _ 21 c.put_named-2.ensures (named_short (32 ∷ []) c.args.line.refused) in
    omega (arith, c.requires)

pub put-requires-2 : goal.put-requires-2
put-requires-2 c =
    let a : length c.put.new.self ≤ length c.args.self.now + 32 = appended_short _ _ _ 32 c.put.ensures (omega (arith, c.hex_text.type_inv)) in
    let b : length c.put_named.new.self ≤ length c.put.new.self + 21 = appended_short _ _ _ 21 c.put_named.ensures (named_short (32 ∷ []) c.args.line.accepted) in
    let d : length c.put_named-2.new.self ≤ length c.put_named.new.self + 21 = appended_short _ _ _ 21 c.put_named-2.ensures (named_short (32 ∷ []) c.args.line.refused) in
    let e : length c.put_top.new.self ≤ length c.put_named-2.new.self + 21 = appended_short _ _ _ 21 c.put_top.ensures (top_short c.args.line.accepted c.args.line.top) in
    omega (arith, c.requires)

pub returns-clause-text : goal.returns-clause-text
unfolding line_text
returns-clause-text c =
    let l = c.args.line in
    rw (c.put-2.ensures, c.put_top.ensures, c.put_named-2.ensures, c.put_named.ensures, c.put.ensures, c.hex_text.ensures)
    (line_parts c.args.self.now (hex_of l.label) (spaced l.accepted) (spaced l.refused) (top_text l.accepted l.top) newline)

pub returns-clause-upper_bound : goal.returns-clause-upper_bound
returns-clause-upper_bound c =
    let a : length c.put.new.self ≤ length c.args.self.now + 32 = appended_short _ _ _ 32 c.put.ensures (omega (arith, c.hex_text.type_inv)) in
    let b : length c.put_named.new.self ≤ length c.put.new.self + 21 = appended_short _ _ _ 21 c.put_named.ensures (named_short (32 ∷ []) c.args.line.accepted) in
    let d : length c.put_named-2.new.self ≤ length c.put_named.new.self + 21 = appended_short _ _ _ 21 c.put_named-2.ensures (named_short (32 ∷ []) c.args.line.refused) in
    let e : length c.put_top.new.self ≤ length c.put_named-2.new.self + 21 = appended_short _ _ _ 21 c.put_top.ensures (top_short c.args.line.accepted c.args.line.top) in
    let f : length c.put-2.new.self ≤ length c.put_top.new.self + 1 = appended_short _ _ _ 1 c.put-2.ensures (omega arith) in
    omega arith
