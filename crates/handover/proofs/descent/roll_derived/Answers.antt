use mathlib.Core.Path.{◌≡◌, refl, sym, ap, ap₂, ◌∙◌}
use mathlib.Core.Bool.{Bool, false, ◌&&◌, ◌||◌, true≢false}
use mathlib.Core.List.{List}
use Prim.Native.Nat.{ℕ, ◌≤◌, ◌<◌, ◌+◌, ◌*◌, ◌/◌}
use native.Mathlib.Nat.{add-zero}
use native.Mathlib.Omega.{arith}
use Rattle.std.specs.Bool.{then_some}
use Rattle.std.specs.Option.{is_some}
use lib.ListN.{length}
use lib.Dec.{eqb}
use Rattle.octets.specs.Layouts.{holds}
use Rattle.rows.specs.Row.{label_of}
use Rattle.rows.specs.Table.{each}
use Rattle.rows.proofs.Tables.{each_next, fit_length, fit_count}
use Rattle.roll.specs.Roll.{Roll, roll_layout}
use Rattle.roll.specs.Places.{Spread}
use Rattle.roll.proofs.Spreads.{roll_spread}
use Rattle.rules.specs.Bundle.{old_count, two_byte, list_at, list_of, added, digests}
use Rattle.rules.specs.Derivation.{roll_of}
use Rattle.bundle.proofs.Places.{digests_part, list_below}
use Rattle.derivation.specs.Walk.{is_next, after, passed, met, derived_from}
use Rattle.derivation.proofs.Walks.{old_there, old_within, old_from, passed_next, passed_within}
use Rattle.handover.specs.Asked.{flag}
use Rattle.handover.proofs.Kept.{noted_none, noted_next}
use Rattle.handover.proofs.Descents.{one_on, walked, led_by, old_fit, step_fails, ends_decide, walk_keeps}
use Rattle.handover.proofs.Places.{list_step, digests_count, list_begins, list_lies, old_lies}
use Rattle.handover.proofs.descent.roll_derived.Goals as goal
use Rattle.handover.proofs.descent.roll_derived.Goals.{After-is_led_to, After-is_through, After-next_list-end, After-old_roll-roll, After-old_row-old, In-loop-r, Start}

-- the old roll is a roll, and that of the entry
abbrev entry : After-old_roll-roll → Start
entry c = (goal.at.After-old_roll-roll c).Start

rolled : (c : After-old_roll-roll) → roll_layout.cut c.old_roll-roll.result.now ≡ roll_of (entry c).args.s.now (entry c).args.i
rolled c = ap roll_layout.cut c.old_roll-roll.ensures

spread : (c : After-old_roll-roll) → Spread c.old_roll-roll.result.now
spread c = roll_spread _ (ap (holds roll_layout) c.old_roll-roll.ensures ∙ (entry c).requires.3)

-- in a turn: what the function was handed, and the number of the list
abbrev start : In-loop-r → Start
start c = entry (goal.at.In-loop-r c).After-old_roll-roll

abbrev listed : In-loop-r → ℕ
listed c = list_of (start c).args.rows (start c).args.i c.loop-r.r

below : (c : In-loop-r) → listed c < (start c).args.rows * old_count (start c).args.s.now
below c = let a = (start c).args in list_below a.rows a.i (old_count a.s.now) c.loop-r.r (start c).requires.2 (omega arith)

lies : (c : In-loop-r) → c.loop-r.place + 2 ≤ length (start c).args.s.now
lies c = omega (arith, c.loop-r.invariant.placed, list_lies (start c).requires.0 (listed c) (below c))

within : (c : In-loop-r) → c.loop-r.r < length c.loop-r.kept
within c = omega (arith, (start c).requires.5, c.loop-r.invariant.noted.long)

-- where the next list begins
ended : (c : After-next_list-end) → c.next_list-end.result ≡ list_at (start (goal.at.After-next_list-end c).In-loop-r).args.s.now (listed (goal.at.After-next_list-end c).In-loop-r + 1)
ended c =
    let l = c.loop-r in
    list_step (start (goal.at.After-next_list-end c).In-loop-r).args.s.now (listed (goal.at.After-next_list-end c).In-loop-r) l.place _ l.invariant.placed c.next_list-end.ensures

-- the rolls that are looked through
abbrev ours : In-loop-r → Roll
ours c = record { count = (start c).args.rows; rows = (start c).args.table.now }

abbrev old : In-loop-r → Roll
old c = roll_of (start c).args.s.now (start c).args.i

few : (c : In-loop-r) → c.loop-r.r < 63
few c = omega (arith, (start c).requires.0.few)

long : (c : In-loop-r) → length (start c).args.table.now ≡ 3528
long c = fit_length (start c).args.rows (start c).args.table.now (start c).requires.1

-- whether a row is there is whether the next row has the label
there :
    (c : After-old_row-old)
    → let t = (goal.at.After-old_row-old c).In-loop-r in is_some c.old_row-old.result ≡ met (old t) (start t).args.table.now t.loop-r.r
there c =
    let t = (goal.at.After-old_row-old c).In-loop-r in
    old_there _ t.loop-r.q c.old_row-old.result c.old_row-old.ensures
    ∙ ap₂ (λ (v : Roll) (k : ℕ). is_next v k (label_of (start t).args.table.now t.loop-r.r))
    (rolled (goal.at.After-old_row-old c).After-old_roll-roll) t.loop-r.invariant.met

-- and the row's test
abbrev turn : After-is_led_to → In-loop-r
turn c = (goal.at.After-is_led_to c).In-loop-r

abbrev tested : In-loop-r → ℕ → Bool
tested c = walked (ours c) (old c) (start c).args.s.now (start c).args.i

found : (c : After-is_led_to) → c.is_led_to.result ≡ tested (turn c) (turn c).loop-r.r
found c =
    let t = turn c in
    let s = (start t).args.s.now in
    let rows = (start t).args.table.now in
    let l = t.loop-r in
    let j : ℕ = listed t in
    let v : Roll = roll_layout.cut t.old_roll-roll.result.now in
    let label : List ℕ = label_of rows l.r in
    c.is_led_to.ensures
    ∙ old_from v l.q label c.old_row-old.result c.old_row-old.ensures rows l.r _ _
    ∙ ap (λ (d : List ℕ). derived_from v l.q (is_next v l.q label) rows l.r d (length d / 32))
    (digests_part s j (ap (λ (k : ℕ). k + 2) l.invariant.placed) (ended (goal.at.After-is_led_to c).After-next_list-end))
    ∙ ap (derived_from v l.q (is_next v l.q label) rows l.r (digests s j)) (digests_count s j (list_lies (start t).requires.0 j (below t)))
    ∙ ap₂ (λ (w : Roll) (k : ℕ). derived_from w k (is_next w k label) rows l.r (digests s j) (added s j))
    (rolled (goal.at.After-is_led_to c).After-old_roll-roll) l.invariant.met

pub old_roll-roll-requires : goal.old_roll-roll-requires
old_roll-roll-requires c = (old_lies c.requires.0 c.args.i c.requires.2, c.requires.0.short)

pub loop-r-init : goal.loop-r-init
unfolding each passed
loop-r-init c =
    let a = (entry c).args in record {
      placed = (entry c).requires.4 ∙ ap (list_at a.s.now) (sym (add-zero (a.rows * a.i)));
      met = refl;
      led = refl;
      noted = noted_none _ a.kept.now;
    }

pub next_list-end-requires : goal.next_list-end-requires
next_list-end-requires c = (lies c, (start c).requires.0.short)

pub old_row-old-requires : goal.old_row-old-requires
old_row-old-requires c = let t = (goal.at.old_row-old-requires c).In-loop-r in (spread (goal.at.old_row-old-requires c).After-old_roll-roll, few t, long t)

pub slice_bounds-is_led_to-end : goal.slice_bounds-is_led_to-end
slice_bounds-is_led_to-end c =
    let t = (goal.at.slice_bounds-is_led_to-end c).In-loop-r in
    omega (arith, ended (goal.at.slice_bounds-is_led_to-end c).After-next_list-end, list_begins (start t).requires.0 (listed t + 1) (omega (arith, below t)))

pub is_led_to-requires : goal.is_led_to-requires
is_led_to-requires c =
    let t = (goal.at.is_led_to-requires c).In-loop-r in
    (spread (goal.at.is_led_to-requires c).After-old_roll-roll, few t, long t, old_within _ t.loop-r.q _ c.old_row-old.result c.old_row-old.ensures)

pub returns-then-not-is_led_to : goal.returns-then-not-is_led_to
returns-then-not-is_led_to c =
    let t = turn (goal.at.returns-then-not-is_led_to c).After-is_led_to in
    let a = (start t).args in
    let s = a.s.now in
    let fails =
    step_fails (ours t) s a.i (start t).requires.1 (start t).requires.3 t.loop-r.r (omega arith)
    (sym (found (goal.at.returns-then-not-is_led_to c).After-is_led_to) ∙ c.if-not-is_led_to.true) in
    (sym (led_by (ours t) s a.i false fails), λ e. absurd (true≢false (sym e ∙ fails)))

pub is_kept-requires : goal.is_kept-requires
is_kept-requires c = lies (turn (goal.at.is_kept-requires c).After-is_led_to)

pub overflow_add-q : goal.overflow_add-q
overflow_add-q c =
    let t = turn (goal.at.overflow_add-q c).After-is_led_to in
    let a = (start t).args in
    let l = t.loop-r in
    let v = old t in
    let fit = old_fit (ours t) a.s.now a.i (start t).requires.1 (start t).requires.3 in
    omega (arith, (one_on c.is_some-there.result l.q c.from-q.result c.from-q.ensures).0, l.invariant.met, passed_within v a.table.now l.r, fit_count v.count v.rows fit)

pub loop-r-preserved : goal.loop-r-preserved
loop-r-preserved c =
    let derived = (goal.at.loop-r-preserved c).After-is_led_to in
    let t = turn derived in
    let a = (start t).args in
    let l = t.loop-r in
    let s = a.s.now in
    let next : listed t + 1 ≡ list_of a.rows a.i (l.r + 1) = omega arith in
    let has = there (goal.at.loop-r-preserved c).After-old_row-old in
    let kept = c.is_kept.ensures
    ∙ ap₂ (λ (p : Bool) (k : ℕ). flag l.kept l.r || (p && eqb (two_byte s k) 0)) (c.is_some-there.ensures ∙ has) l.invariant.placed in
    let on = (one_on c.is_some-there.result l.q c.from-q.result c.from-q.ensures).1 in record {
      placed = ended (goal.at.loop-r-preserved c).After-next_list-end ∙ ap (list_at s) next;
      met = on ∙ ap₂ after l.invariant.met (c.is_some-there.ensures ∙ has) ∙ sym (passed_next (old t) a.table.now l.r);
      led = each_next (tested t) l.r l.invariant.led (sym (found derived) ∙ c.if-not-is_led_to.false);
      noted = noted_next c.is_kept.result l.invariant.noted (omega (arith, (start t).requires.5)) kept;
    }

-- the walk's end
pub is_through-requires : goal.is_through-requires
is_through-requires c = spread (goal.at.is_through-requires c).After-old_roll-roll

pub returns : goal.returns
returns c =
    let begin = entry (goal.at.returns c).After-old_roll-roll in
    let a = begin.args in
    let s = a.s.now in
    let mine : Roll = record { count = a.rows; rows = a.table.now } in
    let old = roll_of s a.i in
    let l = c.loop-r in
    let e : l.r ≡ a.rows = omega arith in
    let through : c.is_through.result ≡ eqb (passed old a.table.now a.rows) old.count =
    c.is_through.ensures ∙ ap₂ (λ (q : ℕ) (v : Roll). eqb q v.count) (l.invariant.met ∙ ap (passed old a.table.now) e) (rolled (goal.at.returns c).After-old_roll-roll) in
    let ends = ends_decide mine s a.i begin.requires.1 begin.requires.3 (rw e at l.invariant.led) in (
      c.then_some.ensures
          ∙ ap₂ then_some through (l.invariant.placed ∙ ap (λ (k : ℕ). list_at s (list_of a.rows a.i k)) e)
          ∙ sym (led_by mine s a.i _ (sym ends)),
      λ d r h.
          l.invariant.noted.noted r (omega arith)
          ∙ ap (λ (p : Bool). flag a.kept.now r || p) (walk_keeps mine s a.i begin.requires.1 begin.requires.3 d r h),
    )
