use mathlib.Core.Path.{◌≡◌, refl, sym, ap, ◌∙◌}
use Prim.Native.Nat.{ℕ, ◌≤◌}
use native.Mathlib.Omega.{arith}
use borrow.Author.Tests.{lt-ltb, le-ltb}
use Rattle.std.specs.Prelude.{Ok}
use Rattle.refusals.specs.Order.{first}
use Rattle.rows.specs.Search.{find}
use Rattle.rules.specs.Told.{Told}
use Rattle.rules.specs.Outcomes.{Lent, refusing, told_place}
use Rattle.rules.specs.Rows.{sought, row_number}
use Rattle.rules.specs.AppendMany.{entries}
use Rattle.rules.proofs.Tolds.{handed_on}
use Rattle.recording.specs.Tests.{ordered, many_told}
use Rattle.recording.proofs.Parts.{fit, unlisted_told, absent_told, found_told, place_within, table_long, height_below, room_below}
use Rattle.recording.proofs.tests.check_many.Goals as goal
use Rattle.recording.proofs.tests.check_many.Goals.{After-find, After-height_at-height, In-Ok}

-- the keeper that is asked
abbrev asked : After-find → Lent
asked c = let a = c.args in record { head = a.head; table = a.table.now; area = a.area.now }

searched : (c : After-find) → c.find.result ≡ sought (asked c) c.args.label
searched c = c.find.ensures ∙ ap (λ (n : ℕ). find n c.args.table.now c.args.label) c.from.ensures

-- where the search finds it
found : (c : In-Ok) → sought (asked (goal.at.In-Ok c).After-find) c.args.label ≡ Ok c.in-Ok.place
found c = sym (searched (goal.at.In-Ok c).After-find) ∙ c.in-Ok.is

low : (c : After-height_at-height) → c.height_at-height.result ≤ 4294967295
low c =
    let a = c.args in
    omega (
      arith,
      c.height_at-height.ensures,
      height_below _ a.label a.list.now a.expected _ c.in_ok-check_listed.ensures refl c.in-Ok.place (found (goal.at.After-height_at-height c).In-Ok),
    )

pub returns-in_err-check_listed-clause-told : goal.returns-in_err-check_listed-clause-told
returns-in_err-check_listed-clause-told c =
    let a = c.args in
    ap (told_place a.head 0) (handed_on _ _ c.from_residual.ensures.1) ∙ unlisted_told _ a.label a.list.now a.expected _ c.in_err-check_listed.ensures _ refl

pub find-requires : goal.find-requires
find-requires c = let a = c.args in rw c.from.ensures (fit _ a.label a.list.now a.expected _ c.in_ok-check_listed.ensures refl)

pub returns-in_default-clause-told : goal.returns-in_default-clause-told
returns-in_default-clause-told c =
    let a = c.args in
    let i : ℕ = c.in_default.field-0 in
    absent_told _ a.label a.list.now a.expected _ c.in_ok-check_listed.ensures refl i
    (sym (searched (goal.at.returns-in_default-clause-told c).After-find) ∙ c.in_default.is)

pub height_at-height-requires : goal.height_at-height-requires
height_at-height-requires c =
    let a = c.args in
    let there = found (goal.at.height_at-height-requires c).In-Ok in (
      place_within _ a.label a.list.now a.expected _ c.in_ok-check_listed.ensures refl c.in-Ok.place there,
      table_long _ a.label a.list.now a.expected _ c.in_ok-check_listed.ensures refl c.in-Ok.place there,
    )

-- what is told after the tests of the heights
heights :
    (c : After-height_at-height) (m : ℕ) → first (ordered c.args.expected c.height_at-height.result (entries c.args.list.now)) ≡ m
    → ◌≡◌ {A = Told} (record { answer = refusing m c.height_at-height.result; head = c.args.head })
    (many_told (asked (goal.at.After-height_at-height c).After-find) c.args.label c.args.list.now c.args.expected)
heights c m e =
    let a = c.args in
    found_told _ a.label a.list.now a.expected _ c.in_ok-check_listed.ensures refl c.in-Ok.place (found (goal.at.After-height_at-height c).In-Ok)
    c.height_at-height.result m c.height_at-height.ensures e

pub returns-then-not-is_next-clause-told : goal.returns-then-not-is_next-clause-told
unfolding first
returns-then-not-is_next-clause-told c =
    heights (goal.at.returns-then-not-is_next-clause-told c).After-height_at-height 11 (rw (sym c.is_next.ensures ∙ c.if-not-is_next.true))

pub overflow_sub-height : goal.overflow_sub-height
overflow_sub-height c = low (goal.at.overflow_sub-height c).After-height_at-height

pub returns-then-height-list-clause-told : goal.returns-then-height-list-clause-told
unfolding first
returns-then-height-list-clause-told c =
    let there = (goal.at.returns-then-height-list-clause-told c).After-height_at-height in
    heights there 12
    (rw (sym c.is_next.ensures ∙ c.if-not-is_next.false, sym (room_below c.height_at-height.result _ (low there)) ∙ lt-ltb _ _ c.if-height-list.true))

pub returns-clause-told : goal.returns-clause-told
unfolding first
returns-clause-told c =
    let there = (goal.at.returns-clause-told c).After-height_at-height in
    heights there 0
    (rw (sym c.is_next.ensures ∙ c.if-not-is_next.false, sym (room_below c.height_at-height.result _ (low there)) ∙ le-ltb _ _ c.if-height-list.false))

pub returns-clause-place : goal.returns-clause-place
returns-clause-place c = sym (ap row_number (found (goal.at.returns-clause-place c).In-Ok))
