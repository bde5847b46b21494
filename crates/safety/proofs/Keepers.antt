-- In a tale every keeper's office holds, and every accepted verdict is vouched for. Assumes nothing.
use mathlib.Core.Path.{◌≡◌, refl, sym, ap, subst, ◌∙◌}
use mathlib.Core.Bool.{Bool, true, false, cond, ◌||◌}
use mathlib.Core.List.{List, [], ◌∷◌}
use Prim.Native.Nat.{ℕ}
use native.Mathlib.Omega.{arith}
use Rattle.octets.specs.Strings.{same}
use Rattle.octets.proofs.RoundTrips.{same_is, same_refl}
use Rattle.refusals.specs.{accepted}
use Rattle.rack.specs.Racks.{rack_string}
use Rattle.statement.specs.declared.Statement.{Statement}
use Rattle.statement.specs.Cut.{cut_statement}
use Rattle.desk.specs.Verdict.{Question, judging}
use Rattle.safety.specs.Calls.{Keeper, Call, left_by}
use Rattle.safety.specs.Histories.{Event, At, Judged, keeper_after, called, ◌∈◌, at_front, behind}
use Rattle.safety.specs.Hashed.{Hashed, now_hashed, before_hashed}
use Rattle.safety.proofs.Views.{Vouched, Waking, founds, prepares, notes, closes, activates, idles}
use Rattle.safety.proofs.Tales.{Said, before_said, says, SeenAs, Tale, begun, woken, acted, judged, VerdictOn}
use Rattle.safety.proofs.Offices.{Office, most_map, said_called, said_judged, SaidAt, said_here, said_earlier, said_at}
use Rattle.safety.proofs.Turns.{Told, told_now, told_before, none_in, live_high}
use Rattle.safety.proofs.Turns.{unsaid_office, quiet_office, founding_office, preparing_office, noting_office, closing_office, activating_office, idle_office}

false-true : ◌≡◌ {A = Bool} false true → ⊥
false-true e = let z : ◌≡◌ {A = ℕ} 0 1 = cc in omega arith

-- the record after one more event
keeper_here : (start : List ℕ → Keeper) (h : List Event) (key : List ℕ) (call : Call)
    → keeper_after start (At key call ∷ h) key ≡ left_by key (keeper_after start h key) call
unfolding keeper_after
keeper_here start h key call = ap (λ (b : Bool). cond b (left_by key (keeper_after start h key) call) (keeper_after start h key)) (same_refl key)

keeper_there : (start : List ℕ → Keeper) (h : List Event) (k key : List ℕ) (call : Call) → same k key ≡ false
    → keeper_after start (At k call ∷ h) key ≡ keeper_after start h key
unfolding keeper_after
keeper_there start h k key call e = ap (λ (b : Bool). cond b (left_by key (keeper_after start h key) call) (keeper_after start h key)) e

keeper_judged : (start : List ℕ → Keeper) (h : List Event) (q : Question) (s signers key : List ℕ)
    → keeper_after start (Judged q s signers ∷ h) key ≡ keeper_after start h key
unfolding keeper_after
keeper_judged start h q s signers key = refl

called_there : (h : List Event) (k key : List ℕ) (call : Call) → same k key ≡ false → called key (At k call ∷ h) ≡ true → called key h ≡ true
unfolding called
called_there h k key call e c = sym (ap (λ (b : Bool). b || called key h) e) ∙ c

called_judged : (h : List Event) (q : Question) (s signers key : List ℕ) → called key (Judged q s signers ∷ h) ≡ true → called key h ≡ true
unfolding called
called_judged h q s signers key c = c

never_called : (key : List ℕ) → called key [] ≡ true → ⊥
unfolding called
never_called key c = false-true c

never_said : {start : List ℕ → Keeper} {key : List ℕ} {v : Statement} {h : List Event} → Said start key v h → called key h ≡ false → ⊥
never_said s c = false-true (sym c ∙ said_called s)

module _ {start : List ℕ → Keeper} {h : List Event} where
  -- at another key
  there : (k key : List ℕ) (call : Call) → same k key ≡ false → (v : Statement) → SaidAt start key v k call h → Said start key v h
  there k key call e v (said_here p m) =
      absurd (false-true (sym e ∙ sym (ap (λ (x : List ℕ). same k x) p) ∙ same_refl k))
  there k key call e v (said_earlier s) = s

  elsewhere : (k key : List ℕ) (call : Call) → same k key ≡ false → Office start h key (keeper_after start h key)
      → Office start (At k call ∷ h) key (keeper_after start (At k call ∷ h) key)
  elsewhere k key call e office =
      subst (λ (x : Keeper). Office start (At k call ∷ h) key x) (sym (keeper_there start h k key call e))
      (quiet_office (At k call) (λ v s. there k key call e v (said_at s)) (called_there h k key call e) office)

  -- at this key
  told_at : {key : List ℕ} {call : Call} {v : Statement} → SaidAt start key v key call h → Told start h key (says key (keeper_after start h key) call) v
  told_at (said_here p m) = told_now m
  told_at (said_earlier s) = told_before s

  wake_silent : {key : List ℕ} {said : List Statement} {v : Statement} → called key h ≡ false → said ≡ [] → Told start h key said v → ⊥
  wake_silent c e (told_now m) = none_in m e
  wake_silent c e (told_before s) = never_said s c

  woken_here : (key : List ℕ) (call : Call) → called key h ≡ false
      → Waking (left_by key (keeper_after start h key) call) (says key (keeper_after start h key) call)
      → Office start (At key call ∷ h) key (left_by key (keeper_after start h key) call)
  woken_here key call c w = unsaid_office (λ v s. wake_silent c w.says (told_at (said_at s))) (λ d l. omega (arith, live_high l, w.is))

  acted_here : (key : List ℕ) (call : Call) → called key h ≡ true → ((other : List ℕ) → Office start h other (keeper_after start h other))
      → SeenAs start h key call → Office start (At key call ∷ h) key (left_by key (keeper_after start h key) call)
  acted_here key call c all (founds f) = founding_office (At key call) (λ v s. told_at (said_at s)) (all key) f
  acted_here key call c all (prepares f) = preparing_office (At key call) (λ v s. told_at (said_at s)) (all key) f
  acted_here key call c all (notes f) = noting_office (At key call) (λ v s. told_at (said_at s)) (all key) c f
  acted_here key call c all (closes f) = closing_office (At key call) (λ v s. told_at (said_at s)) (all key) (λ s m. now_hashed m) c f
  acted_here key call c all (activates f) = activating_office (At key call) (λ v s. told_at (said_at s)) (all key) (λ s m. now_hashed m) all f
  acted_here key call c all (idles f) = idle_office (At key call) (λ v s. told_at (said_at s)) (all key) c f

  -- at whichever key
  by_key : (k key : List ℕ) (call : Call) → ((other : List ℕ) → Office start h other (keeper_after start h other))
      → Office start (At k call ∷ h) k (left_by k (keeper_after start h k) call)
      → (b : Bool) → same k key ≡ b → Office start (At k call ∷ h) key (keeper_after start (At k call ∷ h) key)
  by_key k key call all this true e =
      subst (λ (x : List ℕ). Office start (At k call ∷ h) x (keeper_after start (At k call ∷ h) x)) (same_is k key e)
      (subst (λ (x : Keeper). Office start (At k call ∷ h) k x) (sym (keeper_here start h k call)) this)
  by_key k key call all this false e = elsewhere k key call e (all key)

  judged_by : (q : Question) (s signers key : List ℕ) → Office start h key (keeper_after start h key)
      → Office start (Judged q s signers ∷ h) key (keeper_after start (Judged q s signers ∷ h) key)
  judged_by q s signers key office =
      subst (λ (x : Keeper). Office start (Judged q s signers ∷ h) key x) (sym (keeper_judged start h q s signers key))
      (quiet_office (Judged q s signers) (λ v t. said_judged t) (called_judged h q s signers key) office)

no_said : {start : List ℕ → Keeper} {key : List ℕ} {v : Statement} → Said start key v [] → ⊥
no_said {key = key} s = never_called key (said_called s)

pub offices : {start : List ℕ → Keeper} {h : List Event} → Tale start h → (key : List ℕ) → Office start h key (keeper_after start h key)
offices begun key = unsaid_office (λ v s. no_said s) (λ c l. never_called key c)
offices (woken {key = k} {call} {h} c w t) key = by_key k key call (offices t) (woken_here k call c w) (same k key) refl
offices (acted {key = k} {call} {h} c v t) key = by_key k key call (offices t) (acted_here k call c (offices t) v) (same k key) refl
offices (judged {q} {s} {signers} {h} f t) key = judged_by q s signers key (offices t key)

-- what is vouched for stays so
abbrev pub VouchedAfter : (List ℕ → Keeper) → List Event → Statement → Type 0
VouchedAfter start h v = Vouched (λ s. Hashed start s h) (λ key w. Said start key w h) v

module _ {start : List ℕ → Keeper} {h : List Event} (e : Event) {v : Statement} where
  vouched_from : {Hashes : List ℕ → Type 0} → ((s : List ℕ) → Hashes s → Hashed start s (e ∷ h))
      → Vouched Hashes (λ key w. Said start key w h) v → VouchedAfter start (e ∷ h) v
  vouched_from hashes f =
      record {
        receipt = f.receipt;
        rack = f.rack;
        rack_is = f.rack_is;
        rack_hashed = hashes (rack_string f.rack) f.rack_hashed;
        vouches = most_map (λ key s. before_said s) f.vouches;
      }

-- which verdict of a history
data Which (e x : Event) (h : List Event) : Type 0 where
  this : e ≡ x → Which e x h
  earlier : e ∈ h → Which e x h

which : {e x : Event} {h : List Event} → e ∈ (x ∷ h) → Which e x h
which at_front = this refl
which (behind m) = earlier m

no_call : {q : Question} {s signers key : List ℕ} {call : Call} {h : List Event} → Which (Judged q s signers) (At key call) h → Judged q s signers ∈ h
no_call (this p) = let z : ◌≡◌ {A = ℕ} 0 1 = cc in absurd (omega arith)
no_call (earlier m) = m

nowhere : {e : Event} {l : List Event} → e ∈ l → l ≡ [] → ⊥
nowhere at_front p = let z : ◌≡◌ {A = ℕ} 0 1 = cc in omega arith
nowhere (behind m) p = let z : ◌≡◌ {A = ℕ} 0 1 = cc in omega arith

-- an accepted verdict's statement is vouched for
abbrev Fine : (List ℕ → Keeper) → List Event → Event → Type 0
Fine start h (At key call) = Unit {0}
Fine start h (Judged q s signers) = (judging q s signers).number ≡ accepted → VouchedAfter start h (cut_statement s)

now_fine : {start : List ℕ → Keeper} {q r : Question} {s signers s' signers' : List ℕ} {h : List Event}
    → Fine start (Judged r s' signers' ∷ h) (Judged r s' signers')
    → (Judged q s signers ∈ h → VouchedAfter start h (cut_statement s)) → (judging q s signers).number ≡ accepted
    → Which (Judged q s signers) (Judged r s' signers') h → VouchedAfter start (Judged r s' signers' ∷ h) (cut_statement s)
now_fine {start} {r = r} {s' = s'} {signers' = g} {h = h} f old a (this p) = subst (λ (x : Event). Fine start (Judged r s' g ∷ h) x) (sym p) f a
now_fine {r = r} {s' = s'} {signers' = g} f old a (earlier m) = vouched_from (Judged r s' g) (λ s d. before_hashed d) (old m)

vouched_in : {start : List ℕ → Keeper} {h : List Event} {q : Question} {s signers : List ℕ} → Tale start h → Judged q s signers ∈ h
    → (judging q s signers).number ≡ accepted → VouchedAfter start h (cut_statement s)
vouched_in begun m a = absurd (nowhere m refl)
vouched_in (woken {key} {call} c w t) m a = vouched_from (At key call) (λ s d. before_hashed d) (vouched_in t (no_call (which m)) a)
vouched_in (acted {key} {call} c v t) m a = vouched_from (At key call) (λ s d. before_hashed d) (vouched_in t (no_call (which m)) a)
vouched_in (judged {q} {s} {signers} f t) m a = now_fine (λ b. vouched_from (Judged q s signers) (λ u d. now_hashed d) (f b)) (λ n. vouched_in t n a) a (which m)

pub verdict_vouched : {start : List ℕ → Keeper} {h : List Event} {v : Statement} → Tale start h → VerdictOn h v → VouchedAfter start h v
verdict_vouched {start} {h} t d =
    subst (λ (x : Statement). VouchedAfter start h x) d.cut (vouched_in t d.judged_in d.accepts)
