-- An exported call at a head and rows, and its rule at the same head and the bytes of the rows: one answer, one area, and the rows that the one leaves have the
-- bytes that the other leaves. Assumes nothing.
use mathlib.Core.Path.{◌≡◌, refl, sym, ap, ap₂, subst, ◌∙◌}
use mathlib.Core.Bool.{true, not, cond, ◌&&◌}
use mathlib.Core.List.{List, []}
use Prim.Native.Nat.{ℕ}
use lib.Dec.{eqb}
use Rattle.refusals.specs.{accepted}
use Rattle.rules.specs.declared.Answer.{Answer}
use Rattle.rules.specs.Outcomes.{Lent, Outcome}
use Rattle.rules.specs.Wake.{waking}
use Rattle.rules.specs.Initialise.{initialising}
use Rattle.rules.specs.New.{making}
use Rattle.rules.specs.Append.{appending}
use Rattle.rules.specs.AppendMany.{appending_many}
use Rattle.rules.specs.Read.{reading, appending_and_reading}
use Rattle.rules.specs.Finalise.{finalising}
use Rattle.rules.specs.Activate.{activating}
use Rattle.rules.specs.Check.{checking}
use Rattle.rules.proofs.TablesLeft.{Leaves, waking_left, initialising_left, making_left, appending_left, appending_many_left, reading_left}
use Rattle.rules.proofs.TablesLeft.{appending_and_reading_left, finalising_left, activating_left, checking_left}
use Rattle.table.specs.Flat.{flattened}
use Rattle.table.specs.Held.{Held, over_rows}
use Rattle.table.proofs.RowTrips.{AllTyped}
use Rattle.table.proofs.LeftRows.{rows_left}
use Rattle.safety.specs.Calls.{Keeper, Call, Wake, Initialise, New, Append, AppendMany, Read, AppendAndRead, Finalise, Activate, BytesToCheck}
use Rattle.safety.specs.Calls.{lent, outcome_of, statements_in}
use Rattle.safety.specs.Calls as rules
use Rattle.exported.specs.Types.{hands_bytes}
use Rattle.exported.specs.Calls.{Box, held_by, left_by, accepts, for_signing, flat}
use Rattle.exported.proofs.RowsGiven.{bytes_octets}

-- the rule of a call, over rows and over bytes
record By (key : List ℕ) (b : Box) (call : Call) : Type 0 where
  rule : Lent → Outcome
  area : List ℕ
  held : held_by key b call ≡ over_rows rule b.head b.rows area
  flatly : outcome_of key (flat b) call ≡ rule (lent (flat b) area)
  leaves : hands_bytes call ≡ true → Leaves (flattened b.rows) (rule (lent (flat b) area)).left.table

by : (key : List ℕ) (b : Box) (call : Call) → By key b call
unfolding held_by outcome_of hands_bytes
by key b Wake = record { rule = λ k. waking k key; area = []; held = refl; flatly = refl; leaves = λ e. waking_left (lent (flat b) []) key }
by key b (Initialise identity roll previous own area) =
    record {
      rule = λ k. initialising k identity roll previous own;
      area = area;
      held = refl;
      flatly = refl;
      leaves = λ e. initialising_left (lent (flat b) area) identity roll previous own (bytes_octets roll e);
    }
by key b (New label area) =
    record { rule = λ k. making k label; area = area; held = refl; flatly = refl; leaves = λ e. making_left (lent (flat b) area) label (bytes_octets label e) }
by key b (Append label entry expected area) =
    record {
      rule = λ k. appending k label entry expected;
      area = area;
      held = refl;
      flatly = refl;
      leaves = λ e. appending_left (lent (flat b) area) label entry expected;
    }
by key b (AppendMany label list expected area) =
    record {
      rule = λ k. appending_many k label list expected;
      area = area;
      held = refl;
      flatly = refl;
      leaves = λ e. appending_many_left (lent (flat b) area) label list expected;
    }
by key b (Read label nonce area) =
    record { rule = λ k. reading k label nonce; area = area; held = refl; flatly = refl; leaves = λ e. reading_left (lent (flat b) area) label nonce }
by key b (AppendAndRead label entry expected nonce area) =
    record {
      rule = λ k. appending_and_reading k label entry expected nonce;
      area = area;
      held = refl;
      flatly = refl;
      leaves = λ e. appending_and_reading_left (lent (flat b) area) label entry expected nonce;
    }
by key b (Finalise next area) =
    record { rule = λ k. finalising k next; area = area; held = refl; flatly = refl; leaves = λ e. finalising_left (lent (flat b) area) next }
by key b (Activate previous own bundle) =
    record {
      rule = λ k. activating k previous own bundle;
      area = [];
      held = refl;
      flatly = refl;
      leaves = λ e. activating_left (lent (flat b) []) previous own bundle;
    }
by key b (BytesToCheck previous own bundle list entry area) =
    record {
      rule = λ k. checking k previous own bundle list entry;
      area = area;
      held = refl;
      flatly = refl;
      leaves = λ e. checking_left (lent (flat b) area) previous own bundle list entry;
    }

module _ (key : List ℕ) (b : Box) (call : Call) where
  pub same_answer : (held_by key b call).answer ≡ (outcome_of key (flat b) call).answer
  unfolding over_rows
  same_answer = let y = by key b call in ap (λ (h : Held). h.answer) y.held ∙ sym (ap (λ (o : Outcome). o.answer) y.flatly)

  pub same_area : (held_by key b call).area ≡ (outcome_of key (flat b) call).left.area
  unfolding over_rows
  same_area = let y = by key b call in ap (λ (h : Held). h.area) y.held ∙ sym (ap (λ (o : Outcome). o.left.area) y.flatly)

  pub accepts-flat : rules.accepts key (flat b) call ≡ accepts key b call
  unfolding rules.accepts accepts
  accepts-flat = ap (λ (x : Answer). eqb x.number accepted) (sym same_answer)

  pub signing_flat : rules.for_signing key (flat b) call ≡ for_signing key b call
  unfolding rules.for_signing for_signing rules.accepts accepts
  signing_flat =
      ap₂ (λ (x : Answer) (y : List ℕ). cond (eqb x.number accepted && not x.repeat) (statements_in call y) []) (sym same_answer) (sym same_area)

  -- the record that is left
  pub left-flat :
      AllTyped b.rows → hands_bytes call ≡ true
      → (flat (left_by key b call) ≡ rules.left_by key (flat b) call) × AllTyped (left_by key b call).rows
  unfolding over_rows left_by rules.left_by
  left-flat ts e =
      let y = by key b call in
      let r = rows_left b.rows ts y.rule b.head y.area (y.leaves e) in (
        ap {B = Keeper} (λ (h : Held). record { head = h.head; table = flattened h.rows }) y.held
            ∙ ap {B = Keeper} (λ (t : List ℕ). record { head = (y.rule (lent (flat b) y.area)).left.head; table = t }) r.0
            ∙ sym (ap {B = Keeper} (λ (o : Outcome). record { head = o.left.head; table = o.left.table }) y.flatly),
        subst (λ (h : Held). AllTyped h.rows) (sym y.held) r.1,
      )
