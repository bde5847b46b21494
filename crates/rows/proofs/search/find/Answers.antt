use mathlib.Core.Path.{◌≡◌, sym, ◌∙◌}
use Prim.Native.Nat.{◌+◌, ◌*◌, ◌≤◌}
use native.Mathlib.Omega.{arith}
use lib.ListN.{length, take, drop}
use lib.Seq.{take_all}
use Rattle.std.proofs.Common.{rules}
use Rattle.octets.specs.Strings.{before}
use Rattle.rows.specs.Sizes.{label_bytes, row_bytes}
use Rattle.rows.specs.Row.{label_of}
use Rattle.rows.specs.Search.{Parts}
use Rattle.rows.proofs.Tables.{fit_length, fit_count}
use Rattle.rows.proofs.InOrder.{falls, parts, found_there, absent_there, absent_last}
use Rattle.rows.proofs.search.find.Goals as goal
use Rattle.rows.proofs.search.find.Goals.{After-parted-i}

pub parted-i-requires : goal.parted-i-requires
parted-i-requires c =
    let start = c in
    λ i h.
    let inside : row_bytes * i + label_bytes ≤ length start.args.table.now =
    omega (arith, fit_length _ _ start.requires, fit_count _ _ start.requires) in
    search rules

parted : (c : After-parted-i) → Parts c.args.count c.args.table.now c.args.label c.parted-i.result
unfolding label_of
parted c =
    let a = c.args in
    let long : length a.label ≡ 16 = omega (arith, c.well_formed) in
    parts a.count a.table.now c.requires a.label c.parted-i.result
    (c.parted-i.ensures (λ j. before (label_of a.table.now j) a.label)
    (λ i b h k.
    let found : b ≡ before (take label_bytes (drop (row_bytes * i) a.table.now)) (take label_bytes (drop 0 a.label)) = search rules in
    rw (take_all 16 a.label (omega arith)) at found)
    (falls a.count a.table.now c.requires a.label))

pub returns-then-i-count : goal.returns-then-i-count
returns-then-i-count c =
    let start = c in
    let a = start.args in
    sym (absent_last a.count a.table.now start.requires a.label c.parted-i.result (parted (goal.at.returns-then-i-count c).After-parted-i) c.if-i-count.true)

pub has_label-requires : goal.has_label-requires
has_label-requires c =
    let start = c in
    let p = parted (goal.at.has_label-requires c).After-parted-i in
    omega (arith, p.within, c.if-i-count.false, fit_length _ _ start.requires, fit_count _ _ start.requires)

pub returns-then-has_label : goal.returns-then-has_label
returns-then-has_label c =
    let start = c in
    let a = start.args in
    let p = parted (goal.at.returns-then-has_label c).After-parted-i in
    sym (found_there a.count a.table.now start.requires a.label c.parted-i.result p
    (omega (arith, p.within, c.if-i-count.false)) (sym c.has_label.ensures ∙ c.if-has_label.true))

pub returns : goal.returns
returns c =
    let start = c in
    let a = start.args in
    let p = parted (goal.at.returns c).After-parted-i in
    sym (absent_there a.count a.table.now start.requires a.label c.parted-i.result p
    (omega (arith, p.within, c.if-i-count.false)) (sym c.has_label.ensures ∙ c.if-has_label.false))
