-- The handovers of a history, and the office of one keeper: what its record says of each statement that it said. Assumes nothing.
use mathlib.Core.Path.{◌≡◌, refl, ap}
use mathlib.Core.Bool.{Bool, true, false, ◌||◌}
use mathlib.Core.List.{List, ◌∷◌}
use Prim.Native.Nat.{ℕ}
use native.Mathlib.Omega.{arith}
use Rattle.octets.specs.Strings.{same}
use Rattle.octets.proofs.RoundTrips.{same_refl}
use Rattle.rack.specs.Racks.{rack_string, rack_digest}
use Rattle.roll.specs.Roll.{Roll}
use Rattle.statement.specs.declared.Kind.{Kind}
use Rattle.statement.specs.declared.Kind.TheVariants.{Finalise, Initialise}
use Rattle.statement.specs.declared.Statement.{Statement}
use Rattle.statement.specs.Cut.{no_digest}
use Rattle.rules.specs.Record.{blank, active, finalised}
use Rattle.desk.specs.Verdict.{Question, height_in}
use Rattle.safety.specs.Calls.{Keeper, Call}
use Rattle.safety.specs.Histories.{Event, At, Judged, keeper_after, called, ◌∈◌}
use Rattle.safety.specs.Hashed.{Hashed, before_hashed}
use Rattle.safety.proofs.Views.{roll_in, string_of, Reaches, Grows, Most, enter_of, leave_of, roll_name, Receipt, of_new, of_append, of_read}
use Rattle.safety.proofs.Tales.{Said, now_said, before_said, says}

-- an old keeper's part in a handover: what it said, and that its rows are reached
pub record Hands (start : List ℕ → Keeper) (h : List Event) (identity previous own : List ℕ) (roll : Roll) (key : List ℕ) : Type 0 where
  pub last : Roll
  pub hashed : Hashed start (string_of last) h
  pub said : Said start key (leave_of identity previous own (roll_name last)) h
  pub grew : Grows last roll

-- a rack took over from another, with a roll
pub record Handover (start : List ℕ → Keeper) (h : List Event) (identity previous own : List ℕ) (roll : Roll) : Type 0 where
  pub old : List ℕ
  pub old_is : previous ≡ rack_digest old
  pub old_hashed : Hashed start (rack_string old) h
  pub new : List ℕ
  pub new_is : own ≡ rack_digest new
  pub new_hashed : Hashed start (rack_string new) h
  pub handed : Most old (Hands start h identity previous own roll)
  pub entered : Most new (λ key. Said start key (enter_of identity previous own (roll_name roll)) h)

-- handovers of one identity lead from a rack to a rack
pub data Line (start : List ℕ → Keeper) (h : List Event) (identity first : List ℕ) : List ℕ → Type 0 where
  from_there : Line start h identity first first
  by_handover : {previous own : List ℕ} (roll : Roll) → Line start h identity first previous → Handover start h identity previous own roll
      → Line start h identity first own

-- and from its founding rack, whose digest is the identity
abbrev pub Leads : (List ℕ → Keeper) → List Event → List ℕ → List ℕ → Type 0
Leads start h identity own = Line start h identity identity own

-- active or finalised
pub data Live (k : Keeper) : Type 0 where
  is_active : k.head.status ≡ active → Live k
  is_finalised : k.head.status ≡ finalised → Live k

-- what a statement that was said says of the record now
pub data Stands (start : List ℕ → Keeper) (h : List Event) (k : Keeper) (v : Statement) : Type 0 where
  entering : (roll : List ℕ) → (k.head.status ≡ blank → ⊥) → v ≡ enter_of k.head.identity k.head.previous k.head.own roll → Stands start h k v
  leaving : k.head.status ≡ finalised → Hashed start (string_of (roll_in k)) h
      → v ≡ leave_of k.head.identity k.head.own k.head.next (roll_name (roll_in k)) → Stands start h k v
  noting : Live k → Receipt v.kind → v.identity ≡ k.head.identity → v.own ≡ k.head.own
      → Reaches (roll_in k) v.label (height_in v.kind) v.tail → Stands start h k v

-- where a roll reaches the height of a receipt's label, it has the receipt's tail
pub record Past (roll : Roll) (w : Statement) : Type 0 where
  pub past : (height : ℕ) (tail : List ℕ) → Reaches roll w.label height tail → height ≡ height_in w.kind → tail ≡ w.tail

-- a live keeper was there from the first, or knows its handover: its rows grew from that roll, and all that it noted is past it
pub data Heritage (start : List ℕ → Keeper) (h : List Event) (key : List ℕ) (k : Keeper) : Type 0 where
  from_first : k.head.previous ≡ no_digest → Heritage start h key k
  inherited : (roll : Roll) → Handover start h k.head.identity k.head.previous k.head.own roll → Grows roll (roll_in k)
      → ((w : Statement) → Said start key w h → Receipt w.kind → Past roll w) → Heritage start h key k

pub record Office (start : List ℕ → Keeper) (h : List Event) (key : List ℕ) (k : Keeper) : Type 0 where
  pub stands : (v : Statement) → Said start key v h → Stands start h k v
  pub one_tail : (v w : Statement) → Said start key v h → Said start key w h → Receipt v.kind → Receipt w.kind
      → v.label ≡ w.label → height_in v.kind ≡ height_in w.kind → v.tail ≡ w.tail
  pub leads : called key h ≡ true → Live k → Leads start h k.head.identity k.head.own
  pub heritage : called key h ≡ true → Live k → Heritage start h key k

-- what was said and what was hashed stay so
pub most_map : {rack : List ℕ} {P Q : List ℕ → Type 0} → ((key : List ℕ) → P key → Q key) → Most rack P → Most rack Q
most_map f m =
    record { count = m.count; position = m.position; enough = m.enough; below = m.below; rising = m.rising; each_one = λ i h. f _ (m.each_one i h) }

module _ {start : List ℕ → Keeper} {h : List Event} (e : Event) where
  hands_on : {identity previous own : List ℕ} {roll : Roll} (key : List ℕ)
      → Hands start h identity previous own roll key → Hands start (e ∷ h) identity previous own roll key
  hands_on key g = record { last = g.last; hashed = before_hashed g.hashed; said = before_said g.said; grew = g.grew }

  pub handover_on : {identity previous own : List ℕ} {roll : Roll} → Handover start h identity previous own roll → Handover start (e ∷ h) identity previous own roll
  handover_on g =
      record {
        old = g.old;
        old_is = g.old_is;
        old_hashed = before_hashed g.old_hashed;
        new = g.new;
        new_is = g.new_is;
        new_hashed = before_hashed g.new_hashed;
        handed = most_map hands_on g.handed;
        entered = most_map (λ key s. before_said s) g.entered;
      }

  pub line_on : {identity first own : List ℕ} → Line start h identity first own → Line start (e ∷ h) identity first own
  line_on from_there = from_there
  line_on (by_handover roll l g) = by_handover roll (line_on l) (handover_on g)

  pub stands_on : {k : Keeper} {v : Statement} → Stands start h k v → Stands start (e ∷ h) k v
  stands_on (entering roll p q) = entering roll p q
  stands_on (leaving p d q) = leaving p (before_hashed d) q
  stands_on (noting l r p q s) = noting l r p q s

-- kinds apart
pub no_receipt_enters : {kind : Kind} → Receipt kind → kind ≡ Initialise → ⊥
no_receipt_enters of_new e = let z : ◌≡◌ {A = ℕ} 0 1 = cc in omega arith
no_receipt_enters of_append e = let z : ◌≡◌ {A = ℕ} 0 1 = cc in omega arith
no_receipt_enters of_read e = let z : ◌≡◌ {A = ℕ} 0 1 = cc in omega arith

pub no_receipt_leaves : {kind : Kind} → Receipt kind → kind ≡ Finalise → ⊥
no_receipt_leaves of_new e = let z : ◌≡◌ {A = ℕ} 0 1 = cc in omega arith
no_receipt_leaves of_append e = let z : ◌≡◌ {A = ℕ} 0 1 = cc in omega arith
no_receipt_leaves of_read e = let z : ◌≡◌ {A = ℕ} 0 1 = cc in omega arith

pub kinds_apart : Initialise ≡ Finalise → ⊥
kinds_apart e = let z : ◌≡◌ {A = ℕ} 0 1 = cc in omega arith

-- a keeper that said something was called
or_true : (a b : Bool) → b ≡ true → (a || b) ≡ true
or_true true b e = refl
or_true false b e = e

called_before : (key : List ℕ) (e : Event) (h : List Event) → called key h ≡ true → called key (e ∷ h) ≡ true
unfolding called
called_before key (At k call) h c = or_true (same k key) (called key h) c
called_before key (Judged q s signers) h c = c

called_now : (key : List ℕ) (call : Call) (h : List Event) → called key (At key call ∷ h) ≡ true
unfolding called
called_now key call h = ap (λ (b : Bool). b || called key h) (same_refl key)

pub said_called : {start : List ℕ → Keeper} {key : List ℕ} {v : Statement} {h : List Event} → Said start key v h → called key h ≡ true
said_called {key = key} (now_said {call} {h} m) = called_now key call h
said_called {key = key} (before_said {e} {h} s) = called_before key e h (said_called s)

-- what is said after one more event
pub said_judged : {start : List ℕ → Keeper} {key : List ℕ} {v : Statement} {q : Question} {s signers : List ℕ} {h : List Event}
    → Said start key v (Judged q s signers ∷ h) → Said start key v h
said_judged (before_said t) = t

pub data SaidAt (start : List ℕ → Keeper) (key : List ℕ) (v : Statement) (k : List ℕ) (call : Call) (h : List Event) : Type 0 where
  said_here : k ≡ key → v ∈ says key (keeper_after start h key) call → SaidAt start key v k call h
  said_earlier : Said start key v h → SaidAt start key v k call h

pub said_at : {start : List ℕ → Keeper} {key : List ℕ} {v : Statement} {k : List ℕ} {call : Call} {h : List Event}
    → Said start key v (At k call ∷ h) → SaidAt start key v k call h
said_at (now_said m) = said_here refl m
said_at (before_said s) = said_earlier s
