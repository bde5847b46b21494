-- A tale is safe: two accepted verdicts with one identity, label and height name the same tail. Assumes nothing.
use mathlib.Core.Path.{◌≡◌, refl, sym, subst, subst₂, ◌∙◌}
use mathlib.Core.List.{List}
use Prim.Native.Nat.{ℕ}
use Rattle.roll.specs.Roll.{Roll}
use Rattle.statement.specs.declared.Statement.{Statement}
use Rattle.desk.specs.Verdict.{height_in}
use Rattle.safety.specs.Calls.{Keeper}
use Rattle.safety.specs.Histories.{Event, keeper_after}
use Rattle.safety.specs.Hashed.{ToldApart}
use Rattle.safety.proofs.Views.{Reaches}
use Rattle.safety.proofs.Tales.{Tale, VerdictOn}
use Rattle.safety.proofs.Quorums.{shared, shared_of}
use Rattle.safety.proofs.Offices.{Handover, Line, Leads, from_there, by_handover, Office, said_called}
use Rattle.safety.proofs.Turns.{noted_stands}
use Rattle.safety.proofs.Keepers.{offices, VouchedAfter, verdict_vouched}
use Rattle.safety.proofs.Handovers.{rack_same, inheritance, Ordered, goes_on, goes_back, ordered}
use Rattle.safety.proofs.Covered.{covered}

module _ {start : List ℕ → Keeper} {h : List Event} (all : (key : List ℕ) → Office start h key (keeper_after start h key)) where
  -- handovers lead to the rack of a verdict
  led : {v : Statement} → VouchedAfter start h v → Leads start h v.identity v.own
  led {v} f =
      let z = shared f.vouches f.vouches in
      let n = noted_stands ((all z.key).stands v z.left) f.receipt in
      subst₂ (λ x y. Leads start h x y) (sym n.identity_is) (sym n.own_is) ((all z.key).leads (said_called z.left) n.live)

module _ {start : List ℕ → Keeper} {h : List Event} (all : (key : List ℕ) → Office start h key (keeper_after start h key)) (apart : ToldApart start h) where
  module _ {v w : Statement} (f : VouchedAfter start h v) (g : VouchedAfter start h w) (l : v.label ≡ w.label) (t : height_in v.kind ≡ height_in w.kind) where
    -- in one rack
    one_rack : v.own ≡ w.own → v.tail ≡ w.tail
    one_rack p =
        let e = rack_same apart v.own f.rack g.rack f.rack_is (p ∙ g.rack_is) f.rack_hashed g.rack_hashed in
        let z = shared_of e f.vouches g.vouches in
        (all z.key).one_tail v w z.left z.right f.receipt g.receipt l t

    -- in a later rack
    later_rack : {identity previous own : List ℕ} {roll : Roll} → own ≡ w.own → Line start h identity v.own previous
        → Handover start h identity previous own roll → v.tail ≡ w.tail
    later_rack {own = own} p line k =
        let e = rack_same apart own k.new g.rack k.new_is (p ∙ g.rack_is) k.new_hashed g.rack_hashed in
        let z = shared_of e k.entered g.vouches in
        let i = inheritance all apart z.key k z.left (noted_stands ((all z.key).stands w z.right) g.receipt).live in
        let r = covered all apart f refl line i.handover in
        (i.past w z.right g.receipt).past (height_in v.kind) v.tail
        (subst (λ (x : List ℕ). Reaches i.roll x (height_in v.kind) v.tail) l r) t

    along : {identity own : List ℕ} → own ≡ w.own → Line start h identity v.own own → v.tail ≡ w.tail
    along p from_there = one_rack p
    along p (by_handover roll line k) = later_rack p line k

  either_way : {v w : Statement} {identity : List ℕ} → VouchedAfter start h v → VouchedAfter start h w → v.label ≡ w.label → height_in v.kind ≡ height_in w.kind
      → Ordered start h identity v.own w.own → v.tail ≡ w.tail
  either_way f g l t (goes_on line) = along f g l t refl line
  either_way f g l t (goes_back line) = sym (along g f (sym l) (sym t) refl line)

pub tale_safe : (start : List ℕ → Keeper) (h : List Event) → Tale start h → ToldApart start h → (v w : Statement) → VerdictOn h v → VerdictOn h w
    → v.identity ≡ w.identity → v.label ≡ w.label → height_in v.kind ≡ height_in w.kind → v.tail ≡ w.tail
tale_safe start h tale apart v w d d' i l t =
    let all = offices tale in
    let f = verdict_vouched tale d in
    let g = verdict_vouched tale d' in
    let line : Line start h w.identity w.identity v.own = subst (λ (x : List ℕ). Leads start h x v.own) i (led all f) in
    either_way all apart f g l t (ordered all apart line (led all g))
