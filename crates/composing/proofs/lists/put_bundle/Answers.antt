use mathlib.Core.Path.{◌≡◌, sym, ap, ap₂, ◌∙◌}
use mathlib.Core.List.{List}
use Prim.Native.Nat.{ℕ, ◌+◌, ◌≤◌}
use native.Mathlib.Omega.{arith}
use lib.ListN.{length, length-append}
use Rattle.octets.specs.Strings.{put}
use Rattle.octets.proofs.Fronts.{put_none}
use Rattle.octets.proofs.Puts.{put-put, put-length}
use Rattle.rules.specs.Bundle.{old_count, old_roll}
use Rattle.std.proofs.lemmas.List.{length_push}
use Rattle.bundle.specs.Rolls.{rolls_left}
use Rattle.bundle.proofs.RollsLeft.{Given_next, start, given, ended}
use Rattle.gathering.proofs.Walks.{roll_holds}
use Rattle.composing.specs.Written.{lists_by, lists_of}
use Rattle.composing.proofs.Putting.{of_within, of_long, of_put}
use Rattle.composing.proofs.lists.put_bundle.Goals as goal
use Rattle.composing.proofs.lists.put_bundle.Goals.{In-Some, Start}

-- the area has room for all
whole : (c : Start) → let a = c.args in
    length a.e.now + length (lists_of a.e.now a.store.now a.table.now a.count (old_count a.e.now)) ≤ length a.area.now
whole c =
    let a = c.args in
    omega (arith, c.requires.5, length-append a.e.now (lists_of a.e.now a.store.now a.table.now a.count (old_count a.e.now)))

-- the area with the entries in front
abbrev front : Start → List ℕ
front c = put c.args.area.now 0 c.args.e.now

front_long : (c : Start) → length (front c) ≡ length c.args.area.now
front_long c = put-length c.args.area.now 0 c.args.e.now (omega (arith, whole c))

pub loop-roll-init : goal.loop-roll-init
unfolding lists_of
loop-roll-init c =
    let e = c.args.e.now in
    record {
      given = omega arith;
      left = ap rolls_left c.into_iter-roll-iterator.ensures.into_iter_gives ∙ c.of-roll-items.ensures ∙ start e;
      place = omega arith;
      area = sym (put_none _ _);
    }

turn : (c : In-Some) → Given_next c.args.e.now (length c.loop-roll.yielded) c.in-Some.roll.now (rolls_left c.next.new.self)
turn c = given _ _ _ _ (sym c.loop-roll.invariant.left ∙ c.in-Some.ensures.steps)

-- the next roll's lists have room
room :
    (c : In-Some)
    → let a = c.args in
    let i = length c.loop-roll.yielded in
    (length a.e.now + length (lists_of a.e.now a.store.now a.table.now a.count i)
    + length (lists_by (old_roll a.e.now i) a.store.now a.table.now a.count) ≤ length a.area.now)
room c =
    let a = c.args in
    omega (
      arith,
      whole (goal.at.In-Some c).Start,
      of_within a.e.now a.store.now a.table.now a.count (length c.loop-roll.yielded) (old_count a.e.now) (turn c).below,
    )

-- the area keeps its length
kept : (c : In-Some) → length c.loop-roll.area ≡ length c.args.area.now
kept c =
    let a = c.args in
    let l = c.loop-roll in
    let f = ap length c.copy_at.ensures ∙ front_long (goal.at.In-Some c).Start in
    ap length l.invariant.area
    ∙ put-length _ (length a.e.now) (lists_of a.e.now a.store.now a.table.now a.count (length l.yielded)) (omega (arith, f, room c)) ∙ f

pub put_lists-place-requires : goal.put_lists-place-requires
put_lists-place-requires c =
    let p = c.requires in
    let l = c.loop-roll in
    let there = (goal.at.put_lists-place-requires c).In-Some in
    let t = turn there in
    let e = t.roll_is in (
      rw e (roll_holds p.0 (length l.yielded) t.below),
      p.1,
      p.2,
      p.3,
      rw e (p.4 (length l.yielded) t.below),
      rw e (omega (arith, room there, kept there, l.invariant.place)),
    )

pub loop-roll-preserved : goal.loop-roll-preserved
loop-roll-preserved c =
    let a = c.args in
    let s = a.e.now in
    let store = a.store.now in
    let t = a.table.now in
    let l = c.loop-roll in
    let i = length l.yielded in
    let there = (goal.at.loop-roll-preserved c).In-Some in
    let next = turn there in
    let f = ap length c.copy_at.ensures ∙ front_long (goal.at.loop-roll-preserved c).Start in
    let here = c.put_lists-place.ensures in
    rw (length_push l.yielded c.in-Some.roll)
    (record {
      given = omega (arith, next.below);
      left = next.left_is;
      place = omega (arith, here.0 ∙ ap (λ (roll : List ℕ). l.place + length (lists_by roll store t a.count)) next.roll_is, l.invariant.place, of_long s store t a.count i);
      area = here.1 ∙ ap₂ (λ (x roll : List ℕ). put x l.place (lists_by roll store t a.count)) l.invariant.area next.roll_is
          ∙ of_put s store t a.count _ (length s) i l.place l.invariant.place (omega (arith, f, room there));
    })

pub returns : goal.returns
returns c =
    let a = c.args in
    let s = a.e.now in
    let l = c.loop-roll in
    let all : List ℕ = lists_of s a.store.now a.table.now a.count (old_count s) in
    let e = ended s (length l.yielded) l.invariant.given (sym l.invariant.left ∙ c.in-None.ensures.steps.0) in
    l.invariant.area
    ∙ ap₂ (λ (x : List ℕ) (i : ℕ). put x (length s) (lists_of s a.store.now a.table.now a.count i)) c.copy_at.ensures e
    ∙ put-put a.area.now 0 s all (length s) (omega arith) (omega (arith, whole (goal.at.returns c).Start))
