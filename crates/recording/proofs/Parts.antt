-- Laws of the tests of an append of many in parts: what each leaves to the next, the answer, and where the row is. Assumes nothing.
use mathlib.Core.Path.{◌≡◌, refl, sym, ap, ap₂, ◌∙◌}
use mathlib.Core.Bool.{true, false}
use mathlib.Core.List.{List, ◌∷◌}
use Prim.Native.Nat.{ℕ, ◌+◌, ◌-◌, ◌≤◌, ◌<◌}
use native.Mathlib.Omega.{arith}
use native.Mathlib.Decide.{dec_lt}
use borrow.Author.Tests.{lt-ltb, le-ltb, eqb-false}
use lib.ListN.{length}
use lib.Dec.{eqb, ltb}
use Rattle.refusals.specs.{accepted, no_such_ledger, out_of_order, not_active}
use Rattle.refusals.specs.declared.Refusal.{Refusal}
use Rattle.refusals.specs.declared.Refusal.TheVariants.{NoSuchLedger}
use Rattle.refusals.specs.Order.{Test, ◌⇒◌, first}
use Rattle.refusals.specs.Refused.{refusal_number}
use Rattle.refusals.proofs.Answered.{number_refuses}
use Rattle.refusals.proofs.Orders.{numbered, stops, goes_on, lacks, lacking}
use Rattle.std.specs.Prelude.{Ok, Err}
use Rattle.rows.specs.Sizes.{most_rows, table_bytes, top_height}
use Rattle.rows.specs.Row.{height_of}
use Rattle.rows.specs.Table.{rows_fit}
use Rattle.rows.proofs.Tables.{fit_length, fit_count}
use Rattle.rows.proofs.Searches.{found_is}
use Rattle.statement.specs.Kinds.{receipt_size}
use Rattle.rules.specs.Record.{active}
use Rattle.rules.specs.declared.Answer.{Answer}
use Rattle.rules.specs.Told.{Told}
use Rattle.rules.specs.Outcomes.{Lent, refusing, told_place, lending, readiness}
use Rattle.rules.proofs.Tolds.{refusing_alone}
use Rattle.rules.specs.Rows.{is_absent, row_number, sought, present_tail, present_height}
use Rattle.rules.specs.AppendMany.{entries, append_many_refusal}
use Rattle.rules.proofs.Firsts.{ready, sound_rows}
use Rattle.rules.proofs.FoundRows.{row_found, row_below}
use Rattle.recording.specs.Tests.{listed, ordered, many_told}

module _ (k : Lent) (label list : List ℕ) (expected n : ℕ) (e : n ≡ first (listed k list)) where
  -- the tests after the list's
  abbrev rest : List Test
  rest = (is_absent (sought k label) ⇒ no_such_ledger) ∷ ordered expected (present_height k label) (entries list)

  unlisted_many : (n ≡ accepted → ⊥) → append_many_refusal receipt_size k label list expected ≡ n
  unfolding readiness lending numbered append_many_refusal
  unlisted_many refuses = stops (listed k list) rest n refl e refuses ∙ sym e

  listed_many : n ≡ accepted → append_many_refusal receipt_size k label list expected ≡ first rest
  unfolding readiness lending numbered append_many_refusal
  listed_many accepts = goes_on (listed k list) rest n refl e accepts

  other : eqb n out_of_order ≡ false
  unfolding readiness lending lacks
  other = ap (λ (m : ℕ). eqb m out_of_order) e ∙ lacking out_of_order (listed k list) refl

  -- before the tests of the heights a refusal shows no height
  pub unlisted_told : (r : Refusal) → refusal_number r ≡ n → told_place k.head 0 (Err r) ≡ many_told k label list expected
  unlisted_told r f =
      let same = unlisted_many (λ z. number_refuses r (f ∙ z)) in
      ap (λ (x : Answer). record { answer = x; head = k.head })
      (refusing_alone r _ (present_height k label) (f ∙ sym same) (ap (λ (m : ℕ). eqb m out_of_order) same ∙ other))

  module _ (accepts : n ≡ accepted) where
    pub fit : rows_fit k.head.count k.table ≡ true
    fit = sound_rows k.head k.table (ready receipt_size active not_active k _ (eqb-false 4 0 refl) (sym e ∙ accepts)).0.sounds

    pub absent_told : (i : ℕ) → sought k label ≡ Err i → told_place k.head 0 (Err NoSuchLedger) ≡ many_told k label list expected
    unfolding first
    absent_told i f =
        sym (ap (λ (m : ℕ). record { answer = refusing m (present_height k label); head = k.head }) (listed_many accepts ∙ rw (ap is_absent f)))

    module _ (i : ℕ) (f : sought k label ≡ Ok i) where
      pub found_many : append_many_refusal receipt_size k label list expected ≡ first (ordered expected (present_height k label) (entries list))
      unfolding first
      found_many = listed_many accepts ∙ rw (ap is_absent f)

      -- where the row is, and its height
      pub place_within : i < most_rows
      place_within = omega (arith, (found_is k.head.count k.table label i fit f).0, fit_count k.head.count k.table fit)

      pub table_long : length k.table ≡ table_bytes
      table_long = fit_length k.head.count k.table fit

      pub height_there : height_of k.table i ≡ present_height k label
      height_there = sym (ap (λ g. height_of k.table (row_number g)) f)

      -- a found ledger leaves the answer to the heights
      pub found_told :
          (h m : ℕ) → h ≡ height_of k.table i → first (ordered expected h (entries list)) ≡ m
          → ◌≡◌ {A = Told} (record { answer = refusing m h; head = k.head }) (many_told k label list expected)
      found_told h m p g =
          let q = p ∙ height_there in
          ap₂ (λ (a b : ℕ). record { answer = refusing a b; head = k.head })
          (sym g ∙ ap (λ (x : ℕ). first (ordered expected x (entries list))) q ∙ sym found_many) q

      pub height_below : height_of k.table i ≤ top_height
      height_below =
          let row = row_found k.head.count k.table label fit (ap is_absent f) in
          omega (arith, height_there, row_below label (present_tail k label) (present_height k label) row.1)

-- what is left below the top tells whether more go over it
pub room_below : (height n : ℕ) → height ≤ top_height → ltb (top_height - height) n ≡ ltb top_height (height + n)
room_below height n h = go (dec_lt (top_height - height) n)
  where
    go : Dec (top_height - height < n) → ltb (top_height - height) n ≡ ltb top_height (height + n)
    go (yes l) = lt-ltb (top_height - height) n l ∙ sym (lt-ltb top_height (height + n) (omega arith))
    go (no g) = le-ltb (top_height - height) n (omega arith) ∙ sym (le-ltb top_height (height + n) (omega arith))
