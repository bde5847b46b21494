-- What an accepted New, Append, Append many and Read have: the keeper is active, and the row is there or is not. Assumes nothing.
use mathlib.Core.Path.{◌≡◌, refl, sym, ap, ◌∙◌}
use mathlib.Core.Bool.{Bool, true, false, not, ◌&&◌}
use mathlib.Core.List.{List, [], ◌∷◌, ◌++◌}
use Prim.Native.Nat.{ℕ, ◌+◌, ◌*◌, ◌%◌, ◌≤◌, ◌<◌}
use native.Mathlib.Omega.{arith}
use borrow.Author.Tests.{eqb-false, ltb-false, leb-true, leb-false, not-false}
use lib.ListN.{length}
use lib.Dec.{eqb, leb, ltb}
use Rattle.octets.specs.Strings.{all_zero}
use Rattle.octets.proofs.RoundTrips.{and_left, and_right}
use Rattle.std.specs.Prelude.{Result, Ok, Err}
use Rattle.rows.specs.Sizes.{top_height, row_bytes, table_bytes, most_rows}
use Rattle.rows.specs.Row.{row_holds}
use Rattle.rows.specs.Table.{rows_fit}
use Rattle.rows.proofs.Tables.{fit_length, fit_count}
use Rattle.rows.proofs.Searches.{found_is, absent_is}
use Rattle.statement.specs.Kinds.{digest_bytes, receipt_size, reading_size}
use Rattle.rules.specs.Record.{active}
use Rattle.rules.specs.Outcomes.{Lent, readiness}
use Rattle.rules.specs.Rows.{is_absent, row_number, sought, present_tail, present_height}
use Rattle.rules.specs.Companies.{most_of_one}
use Rattle.rules.proofs.Firsts.{Ready, sound_rows, ready}
use Rattle.refusals.specs.{accepted, label_zero, ledger_exists, company_full, table_full, not_active, list_of_wrong_length, no_such_ledger, out_of_order, height_at_top}
use Rattle.refusals.proofs.Orders.{passes}
use Rattle.rules.specs.New.{new_refusal}
use Rattle.rules.specs.Append.{append_refusal}
use Rattle.rules.specs.AppendMany.{most_entries, entries, is_list, append_many_refusal}
use Rattle.refusals.specs.Order.{◌⇒◌, first}
use Rattle.rules.proofs.FoundRows.{row_found, row_below}
use Rattle.rules.proofs.Companies.{own}

abbrev pub row_of : Lent → List ℕ → ℕ
row_of k label = row_number (sought k label)

pub record Rowed (k : Lent) (label : List ℕ) : Type 0 where
  pub was : k.head.status ≡ active
  pub found : sought k label ≡ Ok (row_of k label)
  pub long : length k.table ≡ table_bytes
  pub within : row_bytes * row_of k label + row_bytes ≤ length k.table
  pub holds : row_holds label (present_tail k label) (present_height k label) ≡ true

pub rowed : (size : ℕ) (k : Lent) (label : List ℕ) → Ready size active k → is_absent (sought k label) ≡ false → Rowed k label
rowed size k label r there = go (sought k label) refl there
  where
    go : (f : Result ℕ ℕ) → sought k label ≡ f → is_absent f ≡ false → Rowed k label
    go (Ok i) p e =
        let n : row_number (sought k label) ≡ i = ap row_number p in
        let fit = sound_rows k.head k.table r.sounds in
        let w = found_is k.head.count k.table label i fit p in
        let few = fit_count k.head.count k.table fit in
        let long = fit_length k.head.count k.table fit in
        record {
          was = r.acts;
          found = p ∙ ap Ok (sym n);
          long = long;
          within = omega (arith, w.0);
          holds = (row_found k.head.count k.table label fit there).1;
        }
    go (Err n) p e = let z : ◌≡◌ {A = Bool} true false = e in let y : ◌≡◌ {A = ℕ} 0 1 = cc in absurd (omega arith)

pub record Makeable (k : Lent) (label : List ℕ) : Type 0 where
  pub room : receipt_size ≤ length k.area
  pub was : k.head.status ≡ active
  pub fit : rows_fit k.head.count k.table ≡ true
  pub labelled : all_zero label ≡ false
  pub new : sought k label ≡ Err (row_of k label)
  pub place : row_of k label ≤ k.head.count
  pub own-few : own k label < most_of_one
  pub few : k.head.count < most_rows

absent_so : (f : Result ℕ ℕ) → not (is_absent f) ≡ false → f ≡ Err (row_number f)
absent_so (Ok i) e = let z : ◌≡◌ {A = Bool} true false = e in cc
absent_so (Err n) e = refl

pub makeable : (k : Lent) (label : List ℕ) → new_refusal k label ≡ accepted → Makeable k label
unfolding new_refusal
makeable k label e =
    let r = ready receipt_size active not_active k _ (eqb-false 4 0 refl) e in
    let a = passes (all_zero label) label_zero _ (eqb-false 14 0 refl) r.1 in
    let b = passes (not (is_absent (sought k label))) ledger_exists _ (eqb-false 9 0 refl) a.1 in
    let o = passes (leb most_of_one (own k label)) company_full _ (eqb-false 39 0 refl) b.1 in
    let c = passes (eqb k.head.count most_rows) table_full _ (eqb-false 13 0 refl) o.1 in
    let fit : rows_fit k.head.count k.table ≡ true = sound_rows k.head k.table r.0.sounds in
    let new : sought k label ≡ Err (row_of k label) = absent_so (sought k label) b.0 in
    let full : (k.head.count ≡ most_rows → ⊥) = eqb-false k.head.count most_rows c.0 in
    record {
      room = r.0.room;
      was = r.0.acts;
      fit = fit;
      labelled = a.0;
      new = new;
      place = (absent_is k.head.count k.table label (row_of k label) fit new).0;
      own-few = leb-false most_of_one (own k label) o.0;
      few = omega (arith, fit_count k.head.count k.table fit);
    }

pub record Appendable (k : Lent) (label : List ℕ) : Type 0 where
  pub has : Rowed k label
  pub below_top : present_height k label < top_height

pub appendable : (size : ℕ) (k : Lent) (label : List ℕ) (expected : ℕ) → append_refusal size k label expected ≡ accepted → Appendable k label
unfolding append_refusal
appendable size k label expected e =
    let r = ready size active not_active k _ (eqb-false 4 0 refl) e in
    let a = passes (is_absent (sought k label)) no_such_ledger _ (eqb-false 10 0 refl) r.1 in
    let b = passes (not (eqb expected (present_height k label + 1))) out_of_order _ (eqb-false 11 0 refl) a.1 in
    let c = passes (eqb (present_height k label) top_height) height_at_top _ (eqb-false 12 0 refl) b.1 in
    let has = rowed size k label r.0 a.0 in
    let top : (present_height k label ≡ top_height → ⊥) = eqb-false (present_height k label) top_height c.0 in
    record { has = has; below_top = omega (arith, row_below label (present_tail k label) (present_height k label) has.holds) }

pub listed_some : (list : List ℕ) → is_list list ≡ true → 1 ≤ entries list
unfolding is_list
listed_some list e =
    leb-true 1 (entries list)
    (and_right (eqb (length list % digest_bytes) 0) (leb 1 (entries list))
    (and_left (eqb (length list % digest_bytes) 0 && leb 1 (entries list)) (leb (entries list) most_entries) e))

pub record Recordable (k : Lent) (label list : List ℕ) : Type 0 where
  pub has : Rowed k label
  pub some : 1 ≤ entries list
  pub below_top : present_height k label + entries list ≤ top_height

pub recordable : (size : ℕ) (k : Lent) (label list : List ℕ) (expected : ℕ) → append_many_refusal size k label list expected ≡ accepted → Recordable k label list
unfolding append_many_refusal
recordable size k label list expected e =
    let r = ready size active not_active k _ (eqb-false 4 0 refl) e in
    let l = passes (not (is_list list)) list_of_wrong_length _ (eqb-false 32 0 refl) r.1 in
    let a = passes (is_absent (sought k label)) no_such_ledger _ (eqb-false 10 0 refl) l.1 in
    let b = passes (not (eqb expected (present_height k label + 1))) out_of_order _ (eqb-false 11 0 refl) a.1 in
    let c = passes (ltb top_height (present_height k label + entries list)) height_at_top _ (eqb-false 12 0 refl) b.1 in
    record {
      has = rowed size k label r.0 a.0;
      some = listed_some list (not-false (is_list list) l.0);
      below_top = ltb-false top_height (present_height k label + entries list) c.0;
    }

pub readable :
    (k : Lent) (label : List ℕ) → first (readiness reading_size active not_active k ++ (is_absent (sought k label) ⇒ no_such_ledger) ∷ []) ≡ accepted → Rowed k label
readable k label e =
    let r = ready reading_size active not_active k _ (eqb-false 4 0 refl) e in
    let a = passes (is_absent (sought k label)) no_such_ledger _ (eqb-false 10 0 refl) r.1 in
    rowed reading_size k label r.0 a.0
