-- Laws of the derivation: a row that every old roll lacks is not derived, one that is missing starts from nothing, and where each roll is derived the rows that
-- some old roll keeps decide. Assumes nothing.
use mathlib.Core.Path.{◌≡◌, refl, sym, ap, subst, ◌∙◌}
use mathlib.Core.Bool.{Bool, true, false, not, ◌&&◌, ◌||◌}
use mathlib.Core.List.{List}
use Prim.Native.Nat.{ℕ, ◌+◌, ◌<◌}
use native.Mathlib.Omega.{arith}
use borrow.Author.Tests.{eqb-true}
use lib.Dec.{eqb}
use Rattle.octets.specs.Strings.{same}
use Rattle.octets.proofs.RoundTrips.{and_left, and_right, same_is}
use Rattle.std.specs.Prelude.{Result, Err}
use Rattle.rows.specs.Row.{tail_of, height_of}
use Rattle.rows.specs.Table.{each}
use Rattle.rows.proofs.Tables.{and_false, each_fails, each_of}
use Rattle.roll.specs.Roll.{Roll}
use Rattle.statement.specs.Cut.{no_digest}
use Rattle.rules.specs.Rows.{is_absent}
use Rattle.rules.specs.Bundle.{old_count, added, digests, list_of}
use Rattle.rules.specs.Derivation.{some, row_in, no_more, grown, counted_height, counted_tail, row_derived, roll_of, roll_derived}
use Rattle.rules.specs.Derivation.{has_row, had_elsewhere, kept_by_some, derived}
use Rattle.rules.proofs.Somes.{some_found, some_none, each_all}

module _ (ours : Roll) (s : List ℕ) where
  -- the first two parts of the derivation
  abbrev led : Bool
  led = each (roll_derived ours s) (old_count s) && each (had_elsewhere ours s) (old_count s)

  pub lacked_by_all : (r : ℕ) → r < ours.count → ((i : ℕ) → i < old_count s → is_absent (row_in (roll_of s i) ours r) ≡ true) → derived ours s ≡ false
  unfolding derived kept_by_some
  lacked_by_all r l h =
      and_false led (each_fails (kept_by_some ours s) ours.count r l (some_none _ (old_count s) (λ i k. rw (h i k))))

  -- the digests listed for a row that old roll i lacks lead from height 0 and the zero tail to ours
  pub missing_starts :
      (i r k : ℕ) → i < old_count s → r < ours.count → row_in (roll_of s i) ours r ≡ Err k → derived ours s ≡ true
      → (added s (list_of ours.count i r) ≡ height_of ours.rows r)
      × (grown no_digest (digests s (list_of ours.count i r)) (added s (list_of ours.count i r)) ≡ tail_of ours.rows r)
  unfolding derived roll_derived row_derived
  missing_starts i r k h l x d =
      let old = roll_of s i in
      let n = added s (list_of ours.count i r) in
      let ds = digests s (list_of ours.count i r) in
      let rolls = each (roll_derived ours s) (old_count s) in
      let all = and_left rolls (each (had_elsewhere ours s) (old_count s)) (and_left led (each (kept_by_some ours s) ours.count) d) in
      let test : ℕ → Bool = λ q. row_derived ours old q (digests s (list_of ours.count i q)) (added s (list_of ours.count i q)) in
      let rows = and_right (no_more ours old) (each test ours.count) (each_of (roll_derived ours s) (old_count s) i h all) in
      let a : Result ℕ ℕ → Bool = λ f. eqb (counted_height old f + n) (height_of ours.rows r) in
      let b : Result ℕ ℕ → Bool = λ f. same (grown (counted_tail old f) ds n) (tail_of ours.rows r) in
      let e : (a (Err k) && b (Err k)) ≡ true = subst (λ (f : Result ℕ ℕ). (a f && b f) ≡ true) x (each_of test ours.count r l rows) in (
        omega (arith, eqb-true (0 + n) (height_of ours.rows r) (and_left (a (Err k)) (b (Err k)) e)),
        same_is (grown no_digest ds n) (tail_of ours.rows r) (and_right (a (Err k)) (b (Err k)) e),
      )

  -- another old roll than i has row r
  abbrev elsewhere : ℕ → ℕ → Bool
  elsewhere i r = some (λ j. not (eqb j i) && has_row ours s r j) (old_count s)

  -- a row that neither roll i nor another has is kept by none
  kept_by_none : (i r : ℕ) → has_row ours s r i ≡ false → elsewhere i r ≡ false → kept_by_some ours s r ≡ false
  unfolding kept_by_some
  kept_by_none i r lacks others =
      some_none _ (old_count s)
      (λ j h. ap (λ (p : Bool). p && eqb (added s (list_of ours.count j r)) 0) (go j h (eqb j i) refl (has_row ours s r j) refl))
    where
      go : (j : ℕ) → j < old_count s → (b : Bool) → eqb j i ≡ b → (p : Bool) → has_row ours s r j ≡ p → has_row ours s r j ≡ false
      go j h true e p q = ap (has_row ours s r) (eqb-true j i e) ∙ lacks
      go j h false e false q = q
      go j h false e true q =
          let t : (not (eqb j i) && has_row ours s r j) ≡ true = rw (e, q) in
          let z : ◌≡◌ {A = Bool} true false = sym (some_found (λ j. not (eqb j i) && has_row ours s r j) (old_count s) j h t) ∙ others in
          cc

  -- where some old roll keeps each row, the rows that are missing are had elsewhere
  kept-elsewhere : each (kept_by_some ours s) ours.count ≡ true → (i : ℕ) → had_elsewhere ours s i ≡ true
  unfolding had_elsewhere
  kept-elsewhere kept i =
      each_all _ ours.count (λ r l. go r (each_of (kept_by_some ours s) ours.count r l kept) (has_row ours s r i) refl (elsewhere i r) refl)
    where
      go :
          (r : ℕ) → kept_by_some ours s r ≡ true → (p : Bool) → has_row ours s r i ≡ p → (q : Bool) → elsewhere i r ≡ q
          → (has_row ours s r i || elsewhere i r) ≡ true
      go r k true e q f = rw e
      go r k false e true f = rw (e, f)
      go r k false e false f = let z : ◌≡◌ {A = Bool} true false = sym k ∙ kept_by_none i r e f in cc

  pub rows_decide : each (roll_derived ours s) (old_count s) ≡ true → derived ours s ≡ each (kept_by_some ours s) ours.count
  unfolding derived
  rows_decide all = go (each (kept_by_some ours s) ours.count) refl
    where
      go :
          (b : Bool) → each (kept_by_some ours s) ours.count ≡ b
          → (led && each (kept_by_some ours s) ours.count) ≡ each (kept_by_some ours s) ours.count
      go true k = rw (all, each_all (had_elsewhere ours s) (old_count s) (λ i l. kept-elsewhere k i), k)
      go false k = and_false led k ∙ sym k
