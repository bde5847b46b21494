-- What a call on the table's bytes leaves, by what it tells: nothing changed where it refused, and what it names otherwise. Assumes nothing.
use mathlib.Core.Path.{◌≡◌, refl, sym, ap, subst, ◌∙◌}
use mathlib.Core.Bool.{Bool, true, false, cond, not}
use mathlib.Core.List.{List}
use Prim.Native.Nat.{ℕ, ◌+◌, ◌≤◌}
use native.Mathlib.Omega.{arith}
use borrow.Author.Tests.{eqb-true, eqb-false, ne_eqb}
use lib.Dec.{eqb}
use Rattle.std.specs.Prelude.{IfOk, Result, Ok, Err, Option, None, Some}
use Rattle.std.specs.Option.{unwrap_or}
use Rattle.std.specs.declared.ops.Range.{Range}
use Rattle.refusals.specs.declared.Refusal.{Refusal}
use Rattle.refusals.specs.Refused.{refusal_number}
use Rattle.refusals.proofs.Answered.{number_refuses}
use Rattle.refusals.specs.{accepted}
use Rattle.rows.specs.Sizes.{most_rows}
use Rattle.rules.specs.declared.Head.{Head}
use Rattle.rules.specs.declared.Done.{Done}
use Rattle.rules.specs.Told.{Told}
use Rattle.rules.specs.Outcomes.{Lent, Outcome, outcome, told, told_place, answer_told, head_told, given, unless}
use Rattle.rules.proofs.Refused.{Ends, stopped, went, ends, refused_leaves as refused_stays, refused_says, Spares}
use Rattle.table.specs.declared.Row.{Row}
use Rattle.table.specs.declared.Left.{Left}
use Rattle.table.specs.Flat.{rows_of, rows_put}
use Rattle.table.specs.Held.{Leaves, left_refused, left_named, left_by, left_moved}
use Rattle.table.proofs.Repeats.{Keeps}
use Rattle.table.proofs.RowsPut.{put_none, put_each, rows_length}

-- the rows that are not named as changed are as they were
abbrev pub Stays : Lent → List ℕ → Range ℕ → Type 0
Stays before table rows =
    (rows.start ≤ rows.end)
    × (rows.end ≤ most_rows)
    × (rows_put rows.start rows.end (rows_of most_rows before.table) (rows_of most_rows table) ≡ rows_of most_rows table)

-- every row named
pub all_named : (k : Lent) (table : List ℕ) → Stays k table (record { start = 0; end = most_rows })
all_named k table =
    let old : List Row = rows_of most_rows k.table in
    let new : List Row = rows_of most_rows table in
    (omega arith, omega arith, put_each old new (rows_length most_rows k.table) (rows_length most_rows table))

-- no row named, where the table stays
abbrev no_rows : Range ℕ
no_rows = record { start = 0; end = 0 }

pub none_named : (k : Lent) (table : List ℕ) → table ≡ k.table → Stays k table no_rows
none_named k table e =
    (omega arith, omega arith, put_none (rows_of most_rows k.table) (rows_of most_rows table) ∙ ap (rows_of most_rows) (sym e))

-- and the head, where it is not named
abbrev pub Remains : Lent → Head → List ℕ → Bool → Range ℕ → Type 0
Remains before head table changed rows = (cond changed head before.head ≡ head) × Stays before table rows

abbrev names : Told → Option Head → Range ℕ → Left
names t head rows = record { answer = t.answer; head = head; rows = record { start = rows.start; end = rows.end } }

-- what a call leaves, whatever it tells, with the head named as another one or not
abbrev pub left_told : Told → Bool → Range ℕ → Left
left_told t changed rows = cond (eqb t.answer.number accepted) (names t (cond changed (Some t.head) None) rows) (names t None no_rows)

-- the law of all that calls leave: the others are its instances
module _ (t : Told) (k : Lent) (table area : List ℕ) (o : Outcome) (e : outcome t table area ≡ o) where
  abbrev end_with : Head → Outcome
  end_with head = record { answer = t.answer; left = record { head = head; table = table; area = area } }

  says : o.answer.number ≡ t.answer.number
  says = ap (λ (x : Outcome). x.answer.number) (sym e)

  head_left : (changed : Bool) → cond changed t.head k.head ≡ t.head → unwrap_or (cond changed (Some t.head) None) k.head ≡ t.head
  head_left true h = refl
  head_left false h = h

  pub leaves_told :
      (l : Left) (changed : Bool) (rows : Range ℕ) → l ≡ left_told t changed rows → Spares k o
      → (o.answer.number ≡ accepted → Remains k t.head table changed rows) → Leaves l k table area o
  unfolding Leaves
  leaves_told l changed rows is spares remains = subst (λ (x : Left). Leaves x k table area o) (sym is) (go (eqb t.answer.number accepted) refl)
    where
      go : (b : Bool) → eqb t.answer.number accepted ≡ b
          → Leaves (cond b (names t (cond changed (Some t.head) None) rows) (names t None no_rows)) k table area o
      go true p =
          let s = remains (says ∙ eqb-true t.answer.number accepted p) in
          (ap end_with (head_left changed s.0) ∙ e, s.1.0, s.1.1, s.1.2)
      go false p =
          let left = ap (λ (x : Outcome). x.left) e ∙ spares (λ z. eqb-false t.answer.number accepted p (sym says ∙ z)) in
          let n = none_named k table (ap (λ (x : Lent). x.table) left) in
          (ap end_with (sym (ap (λ (x : Lent). x.head) left)) ∙ e, n.0, n.1, n.2)

told_named :
    (result : Result Done Refusal) (head : Head) (changed : Bool) (rows : Range ℕ)
    → left_named result changed rows ≡ left_told (told head result) changed rows
told_named (Ok d) head changed rows = refl
told_named (Err r) head changed rows = rw (ne_eqb (refusal_number r) accepted (number_refuses r))

module _ (result : Result Done Refusal) (k : Lent) (table area : List ℕ) (o : Outcome) (e : outcome (told k.head result) table area ≡ o) where
  -- a call that tells what it leaves by its result
  pub leaves_named :
      (l : Left) (changed : Bool) (rows : Range ℕ) → l ≡ left_named result changed rows → Spares k o
      → (o.answer.number ≡ accepted → Remains k (head_told k.head result) table changed rows) → Leaves l k table area o
  leaves_named l changed rows is =
      leaves_told (told k.head result) k table area o e l changed rows (is ∙ told_named result k.head changed rows)

  unrepeated :
      (b : Bool) → (b ≡ true → head_told k.head result ≡ k.head) → cond (not b) (head_told k.head result) k.head ≡ head_told k.head result
  unrepeated true same = sym (same refl)
  unrepeated false same = refl

  -- where it names the head unless it is a repeat
  pub leaves :
      (l : Left) (rows : Range ℕ) → l ≡ left_by result rows → Spares k o → Keeps k o → (o.answer.number ≡ accepted → Stays k table rows)
      → Leaves l k table area o
  leaves l rows is spares keeps stays =
      let same : (answer_told result).repeat ≡ true → head_told k.head result ≡ k.head =
      λ z. ap (λ (x : Outcome). x.left.head) e ∙ keeps (ap (λ (x : Outcome). x.answer.repeat) (sym e) ∙ z) in
      leaves_named l (not (answer_told result).repeat) rows is spares (λ a. (unrepeated (answer_told result).repeat same, stays a))

  -- a call that leaves the head
  pub answers :
      o.left.head ≡ k.head → ◌≡◌ {A = Outcome} (record { answer = answer_told result; left = record { head = k.head; table = table; area = area } }) o
  answers h =
      ap (λ (x : Head). record { answer = answer_told result; left = record { head = x; table = table; area = area } })
      (sym h ∙ ap (λ (x : Outcome). x.left.head) (sym e))
      ∙ e

-- a call that is refused
pub refused_leaves :
    (r : Refusal) (k : Lent) (table area : List ℕ) (o : Outcome) → outcome (told k.head (Err r)) table area ≡ o → Spares k o
    → Leaves (left_refused r) k table area o
refused_leaves r k table area o e spares =
    leaves_named (Err r) k table area o e (left_refused r) true no_rows refl spares
    (λ a. absurd (number_refuses r (ap (λ (x : Outcome). x.answer.number) e ∙ a)))

-- a call that writes so many bytes and gives the place of the row that it changes
module _ (written : ℕ) (place : Result ℕ Refusal) (k : Lent) (table area : List ℕ) (o : Outcome)
    (e : outcome (told_place k.head written place) table area ≡ o) where
  pub leaves_moved :
      (l : Left) → l ≡ left_moved written place → Spares k o → IfOk place (λ i. Stays k table (record { start = i; end = i + 1 })) → Leaves l k table area o
  unfolding Leaves
  leaves_moved l is spares stays = subst (λ (x : Left). Leaves x k table area o) (sym is) (go place e stays)
    where
      go : (p : Result ℕ Refusal) → outcome (told_place k.head written p) table area ≡ o
          → IfOk p (λ i. Stays k table (record { start = i; end = i + 1 })) → Leaves (left_moved written p) k table area o
      go (Ok i) is_o s =
          leaves_told (told_place k.head written (Ok i)) k table area o is_o _ false (record { start = i; end = i + 1 }) refl spares (λ a. (refl, s))
      go (Err r) is_o s = refused_leaves r k table area o is_o spares

-- an effect that leaves the head, or the refusal
module _ (n height : ℕ) (k : Lent) (bytes table : List ℕ) where
  abbrev end : Outcome
  end = unless n height k (given bytes k.head table k.area)

  pub same_head : end.left.head ≡ k.head
  unfolding given
  same_head = go (ends n height k (given bytes k.head table k.area))
    where
      go : Ends n height k (given bytes k.head table k.area) end → end.left.head ≡ k.head
      go (stopped some p) = ap (λ (o : Outcome). o.left.head) p ∙ ap (λ (l : Lent). l.head) (refused_stays n height k)
      go (went none p) = ap (λ (o : Outcome). o.left.head) p

  pub accepted-table : end.answer.number ≡ accepted → (n ≡ accepted) × (end.left.table ≡ table)
  unfolding given
  accepted-table a = go (ends n height k (given bytes k.head table k.area))
    where
      go : Ends n height k (given bytes k.head table k.area) end → (n ≡ accepted) × (end.left.table ≡ table)
      go (stopped some p) = absurd (some (sym (refused_says n height k) ∙ ap (λ (o : Outcome). o.answer.number) (sym p) ∙ a))
      go (went none p) = (none, ap (λ (o : Outcome). o.left.table) p)
