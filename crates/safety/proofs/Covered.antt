-- Rolls only grow: what a rack vouched for lies under the roll of every later handover. Assumes nothing.
use mathlib.Core.Path.{◌≡◌, sym, ◌∙◌}
use mathlib.Core.List.{List}
use Prim.Native.Nat.{ℕ}
use Rattle.roll.specs.Roll.{Roll}
use Rattle.statement.specs.declared.Statement.{Statement}
use Rattle.desk.specs.Verdict.{height_in}
use Rattle.safety.specs.Calls.{Keeper}
use Rattle.safety.specs.Histories.{Event, keeper_after}
use Rattle.safety.specs.Hashed.{ToldApart}
use Rattle.safety.proofs.Views.{roll_in, Reaches}
use Rattle.safety.proofs.Sights.{reached_on, reached_in}
use Rattle.safety.proofs.Quorums.{shared_of}
use Rattle.safety.proofs.Offices.{Hands, Handover, Line, from_there, by_handover, is_finalised, Office}
use Rattle.safety.proofs.Turns.{noted_stands}
use Rattle.safety.proofs.Keepers.{VouchedAfter}
use Rattle.safety.proofs.Handovers.{rack_same, roll_same, inheritance, left_by_said}

module _ {start : List ℕ → Keeper} {h : List Event} (all : (key : List ℕ) → Office start h key (keeper_after start h key)) (apart : ToldApart start h)
    {label : List ℕ} {height : ℕ} {tail : List ℕ} where
  -- what an old keeper's rows reached at last, the roll of its handover reaches
  handed_on : {identity previous own : List ℕ} {roll : Roll} (key : List ℕ) → Hands start h identity previous own roll key
      → Reaches (roll_in (keeper_after start h key)) label height tail → Reaches roll label height tail
  handed_on key g r =
      let left = left_by_said all key g.said in
      let e = roll_same apart g.last (roll_in (keeper_after start h key)) left.roll_is g.hashed left.hashed in
      reached_on g.grew (reached_in {w = g.last} (sym e) r)

  -- so it goes on from handover to handover
  handed_over : {identity before previous own : List ℕ} {r roll : Roll} → Handover start h identity before previous r → Handover start h identity previous own roll
      → ((s : Roll) → Handover start h identity before previous s → Reaches s label height tail) → Reaches roll label height tail
  handed_over {previous = previous} g g' under =
      let e = rack_same apart previous g.new g'.old g.new_is g'.old_is g.new_hashed g'.old_hashed in
      let z = shared_of e g.entered g'.handed in
      let left = left_by_said all z.key z.right.said in
      let i = inheritance all apart z.key g z.left (is_finalised left.is) in
      handed_on z.key z.right (reached_on i.grew (under i.roll i.handover))

module _ {start : List ℕ → Keeper} {h : List Event} (all : (key : List ℕ) → Office start h key (keeper_after start h key)) (apart : ToldApart start h)
    {v : Statement} (f : VouchedAfter start h v) where
  covered_first : {identity previous own : List ℕ} {roll : Roll} → v.own ≡ previous → Handover start h identity previous own roll
      → Reaches roll v.label (height_in v.kind) v.tail
  covered_first p g =
      let e = rack_same apart v.own f.rack g.old f.rack_is (p ∙ g.old_is) f.rack_hashed g.old_hashed in
      let z = shared_of e f.vouches g.handed in
      handed_on all apart z.key z.right (noted_stands ((all z.key).stands v z.left) f.receipt).reaches

  pub covered : {identity first previous own : List ℕ} {roll : Roll} → v.own ≡ first → Line start h identity first previous → Handover start h identity previous own roll
      → Reaches roll v.label (height_in v.kind) v.tail
  covered p from_there g = covered_first p g
  covered p (by_handover r l g') g = handed_over all apart g' g (λ s k. covered p l k)
