-- Laws of what the calls ask first: what a keeper has whose record passes. Assumes nothing.
use mathlib.Core.Path.{◌≡◌, refl, ◌∙◌}
use mathlib.Core.Bool.{Bool, true, false, not, cond, ◌&&◌}
use mathlib.Core.List.{List, [], ◌∷◌, ◌++◌}
use Prim.Native.Nat.{ℕ, ◌≤◌}
use borrow.Author.Tests.{ltb-false, eqb-true, eqb-false, not-false}
use lib.ListN.{length}
use lib.Dec.{eqb, leb, ltb}
use Rattle.refusals.specs.{accepted, area_too_short, record_not_sound}
use Rattle.refusals.specs.Order.{Test, ◌⇒◌, first}
use Rattle.refusals.proofs.Orders.{numbered, stops, goes_on, passes}
use Rattle.octets.proofs.RoundTrips.{and_left, and_right}
use Rattle.rows.specs.Table.{rows_fit}
use Rattle.rules.specs.declared.Head.{Head}
use Rattle.rules.specs.Record.{blank, finalised, sound}
use Rattle.rules.specs.Outcomes.{Lent, lending, readiness}

-- what a record has that was lent with room
pub record Sound (size : ℕ) (k : Lent) : Type 0 where
  pub room : size ≤ length k.area
  pub sounds : sound k.head k.table ≡ true

pub lent :
    (size : ℕ) (k : Lent) (ts : List Test) → first (lending size k ++ ts) ≡ accepted → Sound size k × (first ts ≡ accepted)
unfolding lending
lent size k ts e =
    let a = passes (ltb (length k.area) size) area_too_short _ (eqb-false 1 0 refl) e in
    let b = passes (not (sound k.head k.table)) record_not_sound _ (eqb-false 2 0 refl) a.1 in (
      record { room = ltb-false (length k.area) size a.0; sounds = not-false (sound k.head k.table) b.0 },
      b.1,
    )

-- what a keeper has besides that is ready
pub record Ready (size status : ℕ) (k : Lent) : Type 0 where
  pub room : size ≤ length k.area
  pub sounds : sound k.head k.table ≡ true
  pub acts : k.head.status ≡ status

pub ready :
    (size status number : ℕ) (k : Lent) (ts : List Test) → (number ≡ accepted → ⊥)
    → first (readiness size status number k ++ ts) ≡ accepted → Ready size status k × (first ts ≡ accepted)
unfolding readiness lending
ready size status number k ts refuses e =
    let a = passes (ltb (length k.area) size) area_too_short _ (eqb-false 1 0 refl) e in
    let b = passes (not (sound k.head k.table)) record_not_sound _ (eqb-false 2 0 refl) a.1 in
    let c = passes (not (eqb k.head.status status)) number _ refuses b.1 in (
      record {
        room = ltb-false (length k.area) size a.0;
        sounds = not-false (sound k.head k.table) b.0;
        acts = eqb-true k.head.status status (not-false (eqb k.head.status status) c.0);
      },
      c.1,
    )

-- the rows of a sound record
pub sound_rows : (h : Head) (table : List ℕ) → sound h table ≡ true → rows_fit h.count table ≡ true
unfolding sound
sound_rows h table e = and_right (leb h.status finalised && cond (eqb h.status blank) (eqb h.count 0) true) (rows_fit h.count table) e

-- another table of a roll leaves a record sound
pub sound_again : (h : Head) (t u : List ℕ) → sound h t ≡ true → rows_fit h.count u ≡ true → sound h u ≡ true
unfolding sound
sound_again h t u e fit = rw (and_left (leb h.status finalised && cond (eqb h.status blank) (eqb h.count 0) true) (rows_fit h.count t) e) fit

-- a record that is refused for room or soundness is not ready, for the same
pub unlent_unready :
    (size status number : ℕ) (k : Lent) (n : ℕ) → n ≡ first (lending size k) → (n ≡ accepted → ⊥)
    → first (readiness size status number k) ≡ first (lending size k)
unfolding readiness lending numbered
unlent_unready size status number k n e refuses = stops (lending size k) _ n refl e refuses

turned : (b : Bool) (n : ℕ) → cond (not b) n accepted ≡ cond b accepted n
turned true n = refl
turned false n = refl

-- after room and soundness the status decides
pub lent_ready :
    (size status number : ℕ) (k : Lent) (n : ℕ) → n ≡ first (lending size k) → n ≡ accepted
    → first (readiness size status number k) ≡ cond (eqb k.head.status status) accepted number
unfolding first readiness lending numbered
lent_ready size status number k n e accepts =
    goes_on (lending size k) ((not (eqb k.head.status status) ⇒ number) ∷ []) n refl e accepts ∙ turned (eqb k.head.status status) number
