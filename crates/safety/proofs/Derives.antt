-- A roll that is derived from another reaches all its rows. Assumes nothing.
use mathlib.Core.Path.{◌≡◌, refl, sym, ap, subst, ◌∙◌}
use mathlib.Core.Bool.{Bool, true, false, not, ◌&&◌}
use mathlib.Core.List.{List}
use Prim.Native.Nat.{ℕ, ◌+◌}
use native.Mathlib.Omega.{arith}
use borrow.Author.Tests.{eqb-true}
use lib.Dec.{eqb}
use Rattle.octets.specs.Strings.{same}
use Rattle.octets.proofs.RoundTrips.{and_left, and_right, same_is}
use Rattle.std.specs.Prelude.{Result, Ok, Err}
use Rattle.rows.specs.Row.{tail_of, height_of}
use Rattle.rows.specs.Table.{each, rows_fit}
use Rattle.rows.specs.Search.{find}
use Rattle.rows.proofs.Tables.{each_of}
use Rattle.rows.proofs.Searches.{found_is}
use Rattle.roll.specs.Roll.{Roll}
use Rattle.rules.specs.Rows.{is_absent}
use Rattle.rules.specs.Derivation.{row_in, no_more, grown, counted_height, counted_tail, row_derived}
use Rattle.safety.proofs.Views.{Reaches, Grows}
use Rattle.safety.proofs.Looks.{look_at, shown_at}

module _ (ours old : Roll) where
  -- what is asked of a row that the old roll has
  row_parts :
      (r q : ℕ) (s : List ℕ) (n : ℕ) → row_in old ours r ≡ Ok q → row_derived ours old r s n ≡ true
      → (height_of old.rows q + n ≡ height_of ours.rows r) × (grown (tail_of old.rows q) s n ≡ tail_of ours.rows r)
  unfolding row_derived
  row_parts r q s n x d =
      let a : Result ℕ ℕ → Bool = λ f. eqb (counted_height old f + n) (height_of ours.rows r) in
      let b : Result ℕ ℕ → Bool = λ f. same (grown (counted_tail old f) s n) (tail_of ours.rows r) in
      let e : (a (Ok q) && b (Ok q)) ≡ true = subst (λ (f : Result ℕ ℕ). (a f && b f) ≡ true) x d in (
        eqb-true (height_of old.rows q + n) (height_of ours.rows r) (and_left (a (Ok q)) (b (Ok q)) e),
        same_is (grown (tail_of old.rows q) s n) (tail_of ours.rows r) (and_right (a (Ok q)) (b (Ok q)) e),
      )

  module _ (fit : rows_fit ours.count ours.rows ≡ true) (old_fit : rows_fit old.count old.rows ≡ true)
      (lists : ℕ → List ℕ) (counts : ℕ → ℕ)
      (more : no_more ours old ≡ true) (rows : each (λ r. row_derived ours old r (lists r) (counts r)) ours.count ≡ true) where
    reached :
        (label : List ℕ) (q r : ℕ) → find old.count old.rows label ≡ Ok q → find ours.count ours.rows label ≡ Ok r
        → Reaches ours label (height_of old.rows q) (tail_of old.rows q)
    unfolding grown
    reached label q r old_has we-have =
        let w = found_is ours.count ours.rows label r fit we-have in
        let x : row_in old ours r ≡ Ok q = ap (find old.count old.rows) w.1 ∙ old_has in
        let p = row_parts r q (lists r) (counts r) x (each_of (λ r. row_derived ours old r (lists r) (counts r)) ours.count r w.0 rows) in
        record {
          top = height_of ours.rows r;
          last = tail_of ours.rows r;
          shows = look_at ours label r we-have;
          up = omega (arith, p.0);
          agrees = λ e. let z : counts r ≡ 0 = omega (arith, p.0) in sym (ap (grown (tail_of old.rows q) (lists r)) z) ∙ p.1;
        }

    has : (label : List ℕ) (q : ℕ) → find old.count old.rows label ≡ Ok q → Reaches ours label (height_of old.rows q) (tail_of old.rows q)
    unfolding no_more
    has label q old_has =
        let w = found_is old.count old.rows label q old_fit old_has in
        let m = each_of (λ q. not (is_absent (row_in ours old q))) old.count q w.0 more in
        go (find ours.count ours.rows label) refl (subst (λ (l : List ℕ). not (is_absent (find ours.count ours.rows l)) ≡ true) w.1 m)
      where
        go : (f : Result ℕ ℕ) → find ours.count ours.rows label ≡ f → not (is_absent f) ≡ true → Reaches ours label (height_of old.rows q) (tail_of old.rows q)
        go (Ok r) p e = reached label q r old_has p
        go (Err k) p e = let z : ◌≡◌ {A = Bool} false true = e in let y : ◌≡◌ {A = ℕ} 0 1 = cc in absurd (omega arith)

    pub derived_grows : Grows old ours
    derived_grows =
        record {
          reaches = λ label height tail e.
              let s = shown_at old label height tail e in
              rw (s.height_is, s.tail_is) at (has label s.row s.found);
        }
