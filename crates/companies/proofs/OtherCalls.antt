-- A call of the other company at one of two records that a company cannot tell apart: it cannot tell them apart afterwards. Assumes nothing.
use mathlib.Core.Path.{◌≡◌, refl, sym, ap, subst, ◌∙◌}
use mathlib.Core.Bool.{Bool, true, false, not, cond}
use mathlib.Core.List.{List, []}
use Prim.Native.Nat.{ℕ, ◌+◌, ◌≤◌, ◌<◌}
use native.Mathlib.Omega.{arith}
use lib.ListN.{length}
use Rattle.refusals.specs.{accepted}
use Rattle.rows.specs.Sizes.{label_bytes, tail_bytes, top_height}
use Rattle.statement.specs.Kinds.{receipt_size, reading_size}
use Rattle.rules.specs.Outcomes.{Lent, Outcome, refused, given, unless}
use Rattle.rules.specs.Table.{moved}
use Rattle.rules.specs.Rows.{present_tail}
use Rattle.rules.specs.Companies.{most_of_one, belongs, company_rows}
use Rattle.rules.specs.New.{making}
use Rattle.rules.specs.Append.{next_tail, next_height, moved_on, appending}
use Rattle.rules.specs.AppendMany.{entries, last_tail, last_height, moved_by_all, appending_many}
use Rattle.rules.specs.Read.{reading, appending_and_reading}
use Rattle.rules.proofs.Noted.{row_of, Rowed, Makeable, makeable, Appendable, appendable, Recordable, recordable}
use Rattle.rules.proofs.Refused.{Ends, stopped, went, ends}
use Rattle.rules.proofs.TablesLeft.{grown_digest}
use Rattle.safety.specs.Calls.{Keeper, lent, outcome_of}
use Rattle.safety.proofs.Sizes.{appended_long}
use Rattle.companies.specs.Calls.{Act, New, Append, AppendMany, Read, AppendAndRead, as_call}
use Rattle.companies.specs.Runs.{rows_in}
use Rattle.companies.proofs.CompanyRows.{counted}
use Rattle.companies.proofs.Left as left
use Rattle.companies.proofs.Alike.{Room, fixed, within, Alike, one_company, company_is}
use Rattle.companies.proofs.Told.{kept, same_room}

module _ (c : Bool) (k l : Keeper) (alike : Alike c k l) (label area : List ℕ) (theirs : belongs label c ≡ false) where
  abbrev K : Lent
  K = lent k area

  refused_beside : (n h : ℕ) → Alike c (kept (refused n h K)) l
  unfolding refused
  refused_beside n h = alike

  unless_beside : (n h : ℕ) (effect : Outcome) → (n ≡ accepted → Alike c (kept effect) l) → Alike c (kept (unless n h K effect)) l
  unless_beside n h effect f = go (ends n h K effect)
    where
      go : Ends n h K effect (unless n h K effect) → Alike c (kept (unless n h K effect)) l
      go (stopped a p) = subst (λ (o : Outcome). Alike c (kept o) l) (sym p) (refused_beside n h)
      go (went a p) = subst (λ (o : Outcome). Alike c (kept o) l) (sym p) (f a)

  moved_beside :
      (t : List ℕ) (x : ℕ) → length t ≡ tail_bytes → 1 ≤ x → x ≤ top_height → Rowed K label
      → Alike c (record { head = k.head; table = moved k.table (row_of K label) t x }) l
  moved_beside t x sized some low has =
      record {
        here = record { acts = alike.here.acts; sounds = left.moved_sound K label t x alike.here.sounds has sized some low };
        there = alike.there;
        identity = alike.identity;
        own = alike.own;
        rows = left.moved_theirs K label t x alike.here.sounds has sized some low c theirs ∙ alike.rows;
        room = same_room _ _ _ _ (left.moved_count K label t x alike.here.sounds has sized some low (not c)) refl alike.room;
      }

  append_beside : (entry : List ℕ) → Appendable K label → Alike c (record { head = k.head; table = moved_on K label entry }) l
  unfolding moved_on
  append_beside entry a =
      moved_beside (next_tail K label entry) (next_height K label) (appended_long (present_tail K label) entry) (omega arith) (omega (arith, a.below_top))
      a.has

  many_beside : (list : List ℕ) → Recordable K label list → Alike c (record { head = k.head; table = moved_by_all K label list }) l
  unfolding moved_by_all
  many_beside list a =
      moved_beside (last_tail K label list) (last_height K label list) (grown_digest (present_tail K label) list (entries list) a.some).long
      (omega (arith, a.some)) a.below_top a.has

  -- its new row keeps it within the limit
  new_beside : length label ≡ label_bytes → Makeable K label → Alike c (left.wider K label) l
  new_beside sized m =
      record {
        here = record { acts = alike.here.acts; sounds = left.widened_sound K label m sized };
        there = alike.there;
        identity = alike.identity;
        own = alike.own;
        rows = left.widened_theirs K label m sized c theirs ∙ alike.rows;
        room = within (omega (arith, had, grew)) (small alike.room);
      }
    where
      its : belongs label (not c) ≡ true
      its = one_company label c false theirs

      had : length (rows_in (not c) k) < most_of_one
      had =
          omega (
            arith,
            m.own-few,
            ap (company_rows k.head.count k.table) (company_is label (not c) its) ∙ counted (not c) k.head.count k.table,
          )

      grew : length (rows_in (not c) (left.wider K label)) ≡ length (rows_in (not c) k) + 1
      grew = left.widened_counts K label m sized (not c) ∙ ap (λ (b : Bool). length (rows_in (not c) k) + cond b 1 0) its

      small : Room (length (rows_in (not c) k)) (length (rows_in (not c) l)) → length (rows_in (not c) l) ≤ most_of_one
      small (fixed e) = omega (arith, had)
      small (within g h) = h

  pub stays_alike : length label ≡ label_bytes → (act : Act) → Alike c (kept (outcome_of [] k (as_call act label area))) l
  unfolding as_call outcome_of making appending appending_many reading appending_and_reading given
  stays_alike sized New = unless_beside _ 0 _ (λ p. new_beside sized (makeable K label p))
  stays_alike sized (Append entry expected) = unless_beside _ _ _ (λ p. append_beside entry (appendable receipt_size K label expected p))
  stays_alike sized (AppendMany list expected) = unless_beside _ _ _ (λ p. many_beside list (recordable receipt_size K label list expected p))
  stays_alike sized (Read nonce) = unless_beside _ 0 _ (λ p. alike)
  stays_alike sized (AppendAndRead entry expected nonce) =
      unless_beside _ _ _ (λ p. append_beside entry (appendable (receipt_size + reading_size) K label expected p))
