use mathlib.Core.Path.{◌≡◌, refl, sym, ap, ◌∙◌}
use mathlib.Core.Bool.{Bool, true, false, ◌||◌}
use Prim.Native.Nat.{ℕ, ◌<◌, ◌+◌, ◌*◌}
use native.Mathlib.Nat.{mul-zero, mul-suc}
use native.Mathlib.Numerals.{add-one}
use native.Mathlib.Omega.{arith}
use lib.ListN.{get_or-replicate}
use Rattle.rows.specs.Sizes.{most_rows}
use Rattle.rows.specs.Table.{each}
use Rattle.rows.proofs.Tables.{each_next, each_fails, each_of}
use Rattle.roll.specs.Roll.{Roll}
use Rattle.rules.specs.Bundle.{old_count, list_at, list_of}
use Rattle.rules.specs.Derivation.{some, roll_of, roll_derived, kept_by_some}
use Rattle.rules.proofs.Somes.{some_more, each_same}
use Rattle.rules.proofs.Derived.{rows_decide}
use Rattle.handover.specs.Asked.{roll_held, keeps, flag}
use Rattle.handover.proofs.Kept.{not_derived}
use Rattle.handover.proofs.Descents.{led_none, led_some}
use Rattle.handover.proofs.Places.{new_lies}
use Rattle.handover.proofs.descent.derived.Goals as goal
use Rattle.handover.proofs.descent.derived.Invariants.{kept_so_far}

pub old_count-i-end-requires : goal.old_count-i-end-requires
old_count-i-end-requires c = omega (arith, new_lies c.requires.0)

pub first_list-at-requires : goal.first_list-at-requires
first_list-at-requires c = (omega (arith, new_lies c.requires.0), c.requires.0.short)

pub loop-i-init : goal.loop-i-init
unfolding each some
loop-i-init c = record {
  led = refl;
  long = refl;
  flagged = λ r h. get_or-replicate most_rows r false false (omega (arith, c.requires.0.few));
  placed = c.first_list-at.ensures ∙ ap (list_at c.args.s.now) (sym (mul-zero c.args.rows));
}

pub roll_derived-requires : goal.roll_derived-requires
roll_derived-requires c =
    let s = c.args.s.now in
    let l = c.loop-i in
    let p = c.requires in
    let h : l.i < old_count s = omega (arith, c.old_count-i-end.ensures) in
    (p.0, p.1, h, each_of (roll_held s) (old_count s) l.i h p.2, l.invariant.placed, omega (arith, p.0.few, l.invariant.long))

pub returns-in_default : goal.returns-in_default
returns-in_default c =
    let a = c.args in
    let s = a.s.now in
    let ours : Roll = record { count = a.rows; rows = a.table.now } in
    let none = led_none ours s c.loop-i.i c.in_default.ensures.0 in
    sym (not_derived ours s (each_fails (roll_derived ours s) (old_count s) c.loop-i.i (omega (arith, c.old_count-i-end.ensures)) none))

pub loop-i-preserved : goal.loop-i-preserved
loop-i-preserved c =
    let a = c.args in
    let s = a.s.now in
    let ours : Roll = record { count = a.rows; rows = a.table.now } in
    let l = c.loop-i in
    let call = c.roll_derived in
    let lead = led_some ours s l.i c.in-Some.end c.in-Some.ensures.0 in
    let next : list_of a.rows l.i a.rows ≡ a.rows * (l.i + 1) = sym (ap (λ (k : ℕ). a.rows * k) (add-one l.i) ∙ mul-suc a.rows l.i) in record {
      led = each_next (roll_derived ours s) l.i l.invariant.led lead.0;
      long = call.auto.kept ∙ l.invariant.long;
      flagged = λ r h.
          call.ensures.1 lead.0 r h
          ∙ ap (λ (p : Bool). p || keeps ours (roll_of s l.i) s l.i r) (l.invariant.flagged r h)
          ∙ sym (some_more (λ j. keeps ours (roll_of s j) s j r) l.i);
      placed = lead.1 ∙ ap (list_at s) next;
    }

pub returns : goal.returns
unfolding kept_by_some
returns c =
    let l = c.loop-i in
    let a = c.args in
    let s = a.s.now in
    let ours : Roll = record { count = a.rows; rows = a.table.now } in
    let e : l.i ≡ old_count s = omega (arith, c.old_count-i-end.ensures) in
    let all : each (roll_derived ours s) (old_count s) ≡ true = rw e at l.invariant.led in
    c.all_kept.ensures
    ∙ each_same (flag l.kept) (kept_by_some ours s) a.rows (λ r h. l.invariant.flagged r h ∙ ap (λ (n : ℕ). kept_so_far ours s n r) e)
    ∙ sym (rows_decide ours s all)
