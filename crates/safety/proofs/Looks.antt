-- Laws of what a roll shows of a label: where a row is first, and where it stands. Assumes nothing.
use mathlib.Core.Path.{◌≡◌, refl, sym, ap, subst, ◌∙◌}
use mathlib.Core.Bool.{Bool, true, false, cond}
use mathlib.Core.List.{List}
use Prim.Native.Nat.{ℕ, zero, suc, ◌+◌, ◌<◌}
use native.Mathlib.Omega.{arith}
use Rattle.octets.specs.Strings.{same, before}
use Rattle.octets.proofs.RoundTrips.{same_is, same_refl}
use Rattle.std.specs.Prelude.{Result, Ok, Err}
use Rattle.rows.specs.Row.{label_of, tail_of, height_of}
use Rattle.rows.specs.Search.{or_next, first_of, find}
use Rattle.rows.proofs.Searches.{first_found}
use Rattle.roll.specs.Roll.{Roll}
use Rattle.rules.specs.Rows.{row_number}
use Rattle.safety.proofs.Views.{standing, seen_at, look, Reaches, Grows}

-- a search that found none found what it would have counted
absent_as : (f : Result ℕ ℕ) (k : ℕ) → f ≡ Err k → f ≡ Err (row_number f)
absent_as f k e = e ∙ ap Err (sym (ap row_number e))

module _ (rows label : List ℕ) where
  abbrev None : ℕ → Type 0
  None n = first_of n rows label ≡ Err (row_number (first_of n rows label))

  -- the row that is found is the first
  pub none_earlier : (n j : ℕ) → first_of n rows label ≡ Ok j → None j
  unfolding first_of
  none_earlier zero j e = let z : ◌≡◌ {A = ℕ} 0 1 = cc in absurd (omega arith)
  none_earlier (suc n) j e = go (first_of n rows label) refl (none_earlier n j) e
    where
      here : (k : ℕ) → first_of n rows label ≡ Err k → (t : Bool) → cond t (Ok n) (Err (k + cond (before (label_of rows n) label) 1 0)) ≡ Ok j → None j
      here k p true e = let r : n ≡ j = cc in subst None r (absent_as (first_of n rows label) k p)
      here k p false e = let z : ◌≡◌ {A = ℕ} 0 1 = cc in absurd (omega arith)

      go : (f : Result ℕ ℕ) → first_of n rows label ≡ f → (first_of n rows label ≡ Ok j → None j) → or_next f n (label_of rows n) label ≡ Ok j → None j
      go (Ok i) p earlier e = earlier (p ∙ e)
      go (Err k) p earlier e = here k p (same (label_of rows n) label) e

  -- where none has the label, none is found
  pub none_found : (n : ℕ) → ((m : ℕ) → m < n → label_of rows m ≡ label → ⊥) → None n
  unfolding first_of
  none_found zero never = refl
  none_found (suc n) never = go (same (label_of rows n) label) refl (none_found n (λ m h. never m (omega arith)))
    where
      go : (t : Bool) → same (label_of rows n) label ≡ t → None n → None (suc n)
      go true q e = absurd (never n (omega arith) (same_is (label_of rows n) label q))
      go false q e =
          absent_as (first_of (suc n) rows label) _
          (ap (λ (f : Result ℕ ℕ). or_next f n (label_of rows n) label) e
          ∙ ap (λ (t : Bool). cond t (Ok n) (Err (row_number (first_of n rows label) + cond (before (label_of rows n) label) 1 0))) q)

  pub found_first : (n i : ℕ) → i < n → ((m : ℕ) → m < i → label_of rows m ≡ label → ⊥) → label_of rows i ≡ label → first_of n rows label ≡ Ok i
  found_first n i h never e = first_found rows label n i (row_number (first_of i rows label)) h (none_found i never) (rw e (same_refl label))

module _ (v : Roll) (label : List ℕ) where
  -- a roll shows what it finds
  pub look_at : (i : ℕ) → find v.count v.rows label ≡ Ok i → look v label ≡ standing (height_of v.rows i) (tail_of v.rows i)
  unfolding seen_at look
  look_at i e = ap (seen_at v.rows) e

  pub record ShownAt (height : ℕ) (tail : List ℕ) : Type 0 where
    pub row : ℕ
    pub found : find v.count v.rows label ≡ Ok row
    pub height_is : height_of v.rows row ≡ height
    pub tail_is : tail_of v.rows row ≡ tail

  pub shown_at : (height : ℕ) (tail : List ℕ) → look v label ≡ standing height tail → ShownAt height tail
  unfolding seen_at look
  shown_at height tail e = go (find v.count v.rows label) refl e
    where
      go : (f : Result ℕ ℕ) → find v.count v.rows label ≡ f → seen_at v.rows f ≡ standing height tail → ShownAt height tail
      go (Ok i) p e = record { row = i; found = p; height_is = cc; tail_is = cc }
      go (Err k) p e = let z : ◌≡◌ {A = ℕ} 0 1 = cc in absurd (omega arith)

  -- what stands as it stood is reached
  pub stands_still : (height : ℕ) (tail : List ℕ) → look v label ≡ standing height tail → Reaches v label height tail
  stands_still height tail e = record { top = height; last = tail; shows = e; up = omega arith; agrees = λ h. refl }

pub grows_not : (v : Roll) → Grows v v
grows_not v = record { reaches = stands_still v }
