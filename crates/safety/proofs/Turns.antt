-- The office of a keeper after a call of its own, by each view. Assumes nothing.
use mathlib.Core.Path.{◌≡◌, refl, sym, ap, subst, subst₂, subst₃, ◌∙◌}
use mathlib.Core.Bool.{true}
use mathlib.Core.List.{List, [], ◌∷◌}
use Prim.Native.Nat.{ℕ, ◌≤◌}
use native.Mathlib.Omega.{arith}
use Rattle.roll.specs.Roll.{Roll}
use Rattle.statement.specs.declared.Statement.{Statement}
use Rattle.rules.specs.Record.{blank, active, finalised}
use Rattle.desk.specs.Verdict.{height_in}
use Rattle.safety.specs.Calls.{Keeper}
use Rattle.safety.specs.Histories.{Event, called, keeper_after, ◌∈◌, at_front, behind}
use Rattle.rack.specs.Racks.{rack_string}
use Rattle.safety.specs.Hashed.{Hashed}
use Rattle.safety.proofs.Views.{roll_in, string_of, standing, look, Reaches, Grows, enter_of, leave_of, roll_name, Receipt}
use Rattle.safety.proofs.Views.{SameOffice, Notes, Founding, Preparing, Noting, Closing, Activating, Idle}
use Rattle.safety.proofs.Tales.{Said, before_said}
use Rattle.safety.proofs.Sights.{reached_on, reached_here, grows_here, grows_on, reached_tail}
use Rattle.safety.proofs.Quorums.{shared}
use Rattle.safety.proofs.Offices.{Handover, Leads, from_there, by_handover, Live, is_active, is_finalised, Stands, entering, leaving, noting, Past, Heritage, from_first, inherited, Office}
use Rattle.safety.proofs.Offices.{most_map, handover_on, line_on, stands_on, no_receipt_enters, no_receipt_leaves, kinds_apart, said_called}

pub none_in : {v : Statement} {l : List Statement} → v ∈ l → l ≡ [] → ⊥
none_in at_front e = let z : ◌≡◌ {A = ℕ} 0 1 = cc in omega arith
none_in (behind m) e = let z : ◌≡◌ {A = ℕ} 0 1 = cc in omega arith

one_in : {v x : Statement} {l : List Statement} → v ∈ l → l ≡ x ∷ [] → v ≡ x
one_in at_front e = cc
one_in (behind {y} {l} m) e = let p : l ≡ [] = cc in absurd (none_in m p)

pub live_high : {k : Keeper} → Live k → active ≤ k.head.status
live_high (is_active p) = omega arith
live_high (is_finalised p) = omega arith

stands_not_blank : {start : List ℕ → Keeper} {h : List Event} {k : Keeper} {v : Statement} → Stands start h k v → k.head.status ≡ blank → ⊥
stands_not_blank (entering roll p q) e = p e
stands_not_blank (leaving p d q) e = omega arith
stands_not_blank (noting l r p q s) e = omega (arith, live_high l)

-- what a receipt that was said says of the record
pub record Noted (k : Keeper) (v : Statement) : Type 0 where
  pub live : Live k
  pub identity_is : v.identity ≡ k.head.identity
  pub own_is : v.own ≡ k.head.own
  pub reaches : Reaches (roll_in k) v.label (height_in v.kind) v.tail

pub noted_stands : {start : List ℕ → Keeper} {h : List Event} {k : Keeper} {v : Statement} → Stands start h k v → Receipt v.kind → Noted k v
noted_stands (entering roll p q) r = absurd (no_receipt_enters r (ap (λ (x : Statement). x.kind) q))
noted_stands (leaving p d q) r = absurd (no_receipt_leaves r (ap (λ (x : Statement). x.kind) q))
noted_stands (noting l r' p q s) r = record { live = l; identity_is = p; own_is = q; reaches = s }

-- what a finalise statement that was said says of the record
pub record Left (start : List ℕ → Keeper) (h : List Event) (k : Keeper) (identity own next roll : List ℕ) : Type 0 where
  pub is : k.head.status ≡ finalised
  pub identity_is : identity ≡ k.head.identity
  pub own_is : own ≡ k.head.own
  pub next_is : next ≡ k.head.next
  pub roll_is : roll ≡ roll_name (roll_in k)
  pub hashed : Hashed start (string_of (roll_in k)) h

pub left_stands : {start : List ℕ → Keeper} {h : List Event} {k : Keeper} {identity own next roll : List ℕ}
    → Stands start h k (leave_of identity own next roll) → Left start h k identity own next roll
left_stands (entering r p q) = absurd (kinds_apart (sym (ap (λ (x : Statement). x.kind) q)))
left_stands (leaving p d q) =
    record {
      is = p;
      identity_is = ap (λ (x : Statement). x.identity) q;
      own_is = ap (λ (x : Statement). x.own) q;
      next_is = ap (λ (x : Statement). x.other) q;
      roll_is = ap (λ (x : Statement). x.roll) q;
      hashed = d;
    }
left_stands (noting l r p q s) = absurd (no_receipt_leaves r refl)

-- and an initialise statement
pub record Entered (k : Keeper) (identity previous own : List ℕ) : Type 0 where
  pub identity_is : identity ≡ k.head.identity
  pub previous_is : previous ≡ k.head.previous
  pub own_is : own ≡ k.head.own

pub entered_stands : {start : List ℕ → Keeper} {h : List Event} {k : Keeper} {identity previous own roll : List ℕ}
    → Stands start h k (enter_of identity previous own roll) → Entered k identity previous own
entered_stands (entering r p q) =
    record { identity_is = ap (λ (x : Statement). x.identity) q; previous_is = ap (λ (x : Statement). x.other) q; own_is = ap (λ (x : Statement). x.own) q }
entered_stands (leaving p d q) = absurd (kinds_apart (ap (λ (x : Statement). x.kind) q))
entered_stands (noting l r p q s) = absurd (no_receipt_enters r refl)

-- said in this call or before
pub data Told (start : List ℕ → Keeper) (h : List Event) (key : List ℕ) (said : List Statement) (v : Statement) : Type 0 where
  told_now : v ∈ said → Told start h key said v
  told_before : Said start key v h → Told start h key said v

-- a keeper goes on, in one office and with rows that grow, from a call in which it was not finalised
record Stays (k k' : Keeper) : Type 0 where
  stays : SameOffice k k'
  grows : Grows (roll_in k) (roll_in k')
  not_finalised : k.head.status ≡ finalised → ⊥
  not_blank : k'.head.status ≡ blank → ⊥
  live : Live k → Live k'

module _ {start : List ℕ → Keeper} {h : List Event} (e : Event) {k k' : Keeper} where
  stands_moves : {v : Statement} → Stays k k' → Stands start h k v → Stands start (e ∷ h) k' v
  stands_moves {v} t (entering roll p q) =
      entering roll t.not_blank
      (q ∙ (λ i. enter_of (sym t.stays.identity i) (sym t.stays.previous i) (sym t.stays.own i) roll))
  stands_moves {v} t (leaving p d q) = absurd (t.not_finalised p)
  stands_moves {v} t (noting l r p q s) =
      noting (t.live l) r (p ∙ sym t.stays.identity) (q ∙ sym t.stays.own) (reached_on t.grows s)

  handover_moves : {roll : Roll} → SameOffice k k' → Handover start (e ∷ h) k.head.identity k.head.previous k.head.own roll
      → Handover start (e ∷ h) k'.head.identity k'.head.previous k'.head.own roll
  handover_moves {roll} t g = subst₃ (λ a b c. Handover start (e ∷ h) a b c roll) (sym t.identity) (sym t.previous) (sym t.own) g

  leads_moves : SameOffice k k' → Leads start (e ∷ h) k.head.identity k.head.own → Leads start (e ∷ h) k'.head.identity k'.head.own
  leads_moves t l = subst₂ (λ a b. Leads start (e ∷ h) a b) (sym t.identity) (sym t.own) l

-- nothing said yet, and not in office
pub unsaid_office : {start : List ℕ → Keeper} {h : List Event} {key : List ℕ} {k : Keeper}
    → ((v : Statement) → Said start key v h → ⊥) → (called key h ≡ true → Live k → ⊥) → Office start h key k
unsaid_office silent idle =
    record {
      stands = λ v s. absurd (silent v s);
      one_tail = λ v w s t r q l g. absurd (silent v s);
      leads = λ c l. absurd (idle c l);
      heritage = λ c l. absurd (idle c l);
    }

-- an event that is none of this keeper's
module _ {start : List ℕ → Keeper} {h : List Event} (e : Event) {key : List ℕ} {k : Keeper}
    (back : (v : Statement) → Said start key v (e ∷ h) → Said start key v h) where
  heritage_on : Heritage start h key k → Heritage start (e ∷ h) key k
  heritage_on (from_first p) = from_first p
  heritage_on (inherited roll g grew past) = inherited roll (handover_on e g) grew (λ w s r. past w (back w s) r)

  pub quiet_office : (called key (e ∷ h) ≡ true → called key h ≡ true) → Office start h key k → Office start (e ∷ h) key k
  quiet_office c office =
      record {
        stands = λ v s. stands_on e (office.stands v (back v s));
        one_tail = λ v w s t r q l g. office.one_tail v w (back v s) (back w t) r q l g;
        leads = λ d l. line_on e (office.leads (c d) l);
        heritage = λ d l. heritage_on (office.heritage (c d) l);
      }

-- a keeper that was blank has said one thing
blank_told : {start : List ℕ → Keeper} {h : List Event} {key : List ℕ} {k : Keeper} {said : List Statement} {x v : Statement}
    → Office start h key k → k.head.status ≡ blank → said ≡ x ∷ [] → Told start h key said v → v ≡ x
blank_told office b p (told_now m) = one_in m p
blank_told {v = v} office b p (told_before s) = absurd (stands_not_blank (office.stands v s) b)

same_roll : (v w : Roll) → w ≡ v → Grows v w
same_roll v w p = subst (λ (r : Roll). Grows v r) (sym p) (grows_here v)

module _ {start : List ℕ → Keeper} {h : List Event} (e : Event) {key : List ℕ} {k k' : Keeper} {said : List Statement}
    (tells : (v : Statement) → Said start key v (e ∷ h) → Told start h key said v) (office : Office start h key k) where
  first_office : k.head.status ≡ blank → (k'.head.status ≡ blank → ⊥)
      → said ≡ enter_of k'.head.identity k'.head.previous k'.head.own (roll_name (roll_in k')) ∷ []
      → (Live k' → Leads start (e ∷ h) k'.head.identity k'.head.own) → (Live k' → Heritage start (e ∷ h) key k')
      → Office start (e ∷ h) key k'
  first_office b n p l g =
      record {
        stands = λ v s. entering (roll_name (roll_in k')) n (blank_told office b p (tells v s));
        one_tail = λ v w s t r q a c. absurd (no_receipt_enters r (ap (λ (x : Statement). x.kind) (blank_told office b p (tells v s))));
        leads = λ c d. l d;
        heritage = λ c d. g d;
      }

  pub founding_office : Founding k k' said → Office start (e ∷ h) key k'
  founding_office f =
      first_office f.was (λ z. omega (arith, f.is)) f.says
      (λ l. subst (λ (x : List ℕ). Leads start (e ∷ h) k'.head.identity x) (sym f.founds) from_there)
      (λ l. from_first f.first)

  pub preparing_office : Preparing k k' said → Office start (e ∷ h) key k'
  preparing_office f =
      first_office f.was (λ z. omega (arith, f.is)) f.says
      (λ l. absurd (omega (arith, live_high l, f.is))) (λ l. absurd (omega (arith, live_high l, f.is)))

  -- a keeper that goes on: what it says now stands, and its receipts show its rows
  module _ (t : Stays k k') (fresh : (v : Statement) → v ∈ said → Stands start (e ∷ h) k' v)
      (notes : (v : Statement) → v ∈ said → Receipt v.kind → Notes k' v) where
    stay_stands : (v : Statement) → Told start h key said v → Stands start (e ∷ h) k' v
    stay_stands v (told_now m) = fresh v m
    stay_stands v (told_before s) = stands_moves e t (office.stands v s)

    stay_one_tail : (v w : Statement) → Told start h key said v → Told start h key said w → Receipt v.kind → Receipt w.kind
        → v.label ≡ w.label → height_in v.kind ≡ height_in w.kind → v.tail ≡ w.tail
    stay_one_tail v w (told_now m) d r q l g =
        sym (reached_tail (noted_stands (stay_stands w d) q).reaches
        (ap (look (roll_in k')) (sym l) ∙ (notes v m r).shows ∙ ap (λ (x : ℕ). standing x v.tail) g))
    stay_one_tail v w (told_before s) (told_now m) r q l g =
        reached_tail (noted_stands (stay_stands v (told_before s)) r).reaches
        (ap (look (roll_in k')) l ∙ (notes w m q).shows ∙ ap (λ (x : ℕ). standing x w.tail) (sym g))
    stay_one_tail v w (told_before s) (told_before u) r q l g = office.one_tail v w s u r q l g

    stay_office : (Live k' → Leads start (e ∷ h) k'.head.identity k'.head.own) → (Live k' → Heritage start (e ∷ h) key k')
        → Office start (e ∷ h) key k'
    stay_office l g =
        record {
          stands = λ v s. stay_stands v (tells v s);
          one_tail = λ v w s u. stay_one_tail v w (tells v s) (tells w u);
          leads = λ c d. l d;
          heritage = λ c d. g d;
        }

    stay_past : {roll : Roll} → Grows roll (roll_in k') → ((w : Statement) → Said start key w h → Receipt w.kind → Past roll w)
        → (w : Statement) → Told start h key said w → Receipt w.kind → Past roll w
    stay_past grew past w (told_now m) r =
        record { past = λ height tail reach p. reached_tail (reached_on grew reach) ((notes w m r).shows ∙ ap (λ (x : ℕ). standing x w.tail) (sym p)) }
    stay_past grew past w (told_before s) r = past w s r

    stay_heritage : Heritage start h key k → Heritage start (e ∷ h) key k'
    stay_heritage (from_first p) = from_first (t.stays.previous ∙ p)
    stay_heritage (inherited roll g grew past) =
        inherited roll (handover_moves e t.stays (handover_on e g)) (grows_on grew t.grows)
        (λ w s r. stay_past (grows_on grew t.grows) past w (tells w s) r)

    -- from one call in office to the next
    kept_office : called key h ≡ true → Live k → Office start (e ∷ h) key k'
    kept_office c l = stay_office (λ d. leads_moves e t.stays (line_on e (office.leads c l))) (λ d. stay_heritage (office.heritage c l))

  pub noting_office : called key h ≡ true → Noting k k' said → Office start (e ∷ h) key k'
  noting_office c n =
      kept_office
      (record { stays = n.stays; grows = n.grows; not_finalised = λ z. omega (arith, n.was); not_blank = λ z. omega (arith, n.is); live = λ l. is_active n.is })
      (λ v m. let o = n.notes v m in noting (is_active n.is) o.receipt o.identity o.own (reached_here o.shows))
      (λ v m r. n.notes v m) c (is_active n.was)

  module _ {Hashes : List ℕ → Type 0} (hashes : (s : List ℕ) → Hashes s → Hashed start s (e ∷ h)) where
    pub closing_office : called key h ≡ true → Closing Hashes k k' said → Office start (e ∷ h) key k'
    closing_office c n =
        kept_office
        (record {
          stays = n.stays;
          grows = same_roll (roll_in k) (roll_in k') n.roll_stays;
          not_finalised = λ z. omega (arith, n.was);
          not_blank = λ z. omega (arith, n.is);
          live = λ l. is_finalised n.is;
        })
        (λ v m.
        leaving n.is (subst (λ (r : Roll). Hashed start (string_of r) (e ∷ h)) (sym n.roll_stays) (hashes (string_of (roll_in k)) n.roll_hashed))
        (one_in m n.says ∙ (λ i. leave_of (sym n.stays.identity i) (sym n.stays.own i) k'.head.next (roll_name (sym n.roll_stays i)))))
        (λ v m r. absurd (no_receipt_leaves r (ap (λ (x : Statement). x.kind) (one_in m n.says))))
        c (is_active n.was)

    module _ (others : (other : List ℕ) → Office start h other (keeper_after start h other)) where
      -- the handover that an activation is
      taken_over : Activating Hashes (λ other v. Said start other v h) k k' said
          → Handover start (e ∷ h) k.head.identity k.head.previous k.head.own (roll_in k)
      taken_over a =
          record {
            old = a.old;
            old_is = a.old_is;
            old_hashed = hashes (rack_string a.old) a.old_hashed;
            new = a.own;
            new_is = a.own_is;
            new_hashed = hashes (rack_string a.own) a.own_hashed;
            handed = most_map (λ other g. record { last = g.roll; hashed = hashes (string_of g.roll) g.hashed; said = before_said g.said; grew = g.grew }) a.handed;
            entered = most_map (λ other s. before_said s) a.entered;
          }

      -- an old keeper's handovers lead to the previous rack
      led_there : Activating Hashes (λ other v. Said start other v h) k k' said → Leads start h k.head.identity k.head.previous
      led_there a =
          let z = shared a.handed a.handed in
          let left = left_stands ((others z.key).stands _ z.left.said) in
          subst₂ (λ x y. Leads start h x y) (sym left.identity_is) (sym left.own_is)
          ((others z.key).leads (said_called z.left.said) (is_finalised left.is))

      prepared_past : Activating Hashes (λ other v. Said start other v h) k k' said → (w : Statement) → Told start h key said w → Receipt w.kind → Past (roll_in k) w
      prepared_past a w (told_now m) r = absurd (none_in m a.says)
      prepared_past a w (told_before s) r = absurd (omega (arith, live_high (noted_stands (office.stands w s) r).live, a.was))

      pub activating_office : Activating Hashes (λ other v. Said start other v h) k k' said → Office start (e ∷ h) key k'
      activating_office a =
          stay_office
          (record {
            stays = a.stays;
            grows = same_roll (roll_in k) (roll_in k') a.roll_stays;
            not_finalised = λ z. omega (arith, a.was);
            not_blank = λ z. omega (arith, a.is);
            live = λ l. is_active a.is;
          })
          (λ v m. absurd (none_in m a.says)) (λ v m r. absurd (none_in m a.says))
          (λ l. leads_moves e a.stays (by_handover (roll_in k) (line_on e (led_there a)) (taken_over a)))
          (λ l. inherited (roll_in k) (handover_moves e a.stays (taken_over a)) (same_roll (roll_in k) (roll_in k') a.roll_stays) (λ w s r. prepared_past a w (tells w s) r))

  idle_back : Idle k k' said → (v : Statement) → Told start h key said v → Said start key v h
  idle_back n v (told_now m) = absurd (none_in m n.says)
  idle_back n v (told_before s) = s

  pub idle_office : called key h ≡ true → Idle k k' said → Office start (e ∷ h) key k'
  idle_office c n =
      subst (λ (x : Keeper). Office start (e ∷ h) key x) (λ i. record { head = sym n.same_head i; table = sym n.same_table i })
      (quiet_office e (λ v s. idle_back n v (tells v s)) (λ d. c) office)
