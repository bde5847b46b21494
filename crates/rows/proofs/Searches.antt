-- Laws of the search for a label. Assumes nothing.
use mathlib.Core.Path.{◌≡◌, refl, sym, ◌∙◌}
use mathlib.Core.Bool.{Bool, true, false, cond}
use mathlib.Core.List.{List}
use Prim.Native.Nat.{ℕ, zero, suc, ◌+◌, ◌*◌, ◌<◌, ◌≤◌}
use native.Mathlib.Decide.{dec_lt}
use native.Mathlib.Nat.{not-suc-le-zero}
use native.Mathlib.Numerals.{add-one}
use native.Mathlib.Omega.{arith}
use lib.ListN.{length}
use Rattle.octets.specs.Strings.{same, before}
use Rattle.octets.proofs.RoundTrips.{same_is, same_refl}
use Rattle.rows.specs.Row.{label_of}
use Rattle.rows.specs.Table.{rows_fit}
use Rattle.rows.specs.Search.{held, or_next, first_of, find}
use Rattle.std.specs.Prelude.{Result, Ok, Err}
use Rattle.rows.specs.Sizes.{row_bytes, most_rows}
use Rattle.rows.proofs.Tables.{fit_length, fit_count}

-- the rows that a string holds are within it, and as many as a roll has at most
pub held_within : (count : ℕ) (rows : List ℕ) → row_bytes * held count rows ≤ length rows
unfolding held
held_within count rows = omega arith

pub held_most : (count : ℕ) (rows : List ℕ) → held count rows ≤ most_rows
unfolding held
held_most count rows = omega arith

-- a table of sixty-three rows holds every count that a roll has
pub held_all : (count : ℕ) (rows : List ℕ) → count ≤ most_rows → row_bytes * count ≤ length rows → held count rows ≡ count
unfolding held
held_all count rows h k = omega arith

module _ (rows label : List ℕ) where
  pub first_next :
      (i k : ℕ) (b : Bool) → first_of i rows label ≡ Err k → same (label_of rows i) label ≡ false → before (label_of rows i) label ≡ b
      → first_of (i + 1) rows label ≡ Err (k + cond b 1 0)
  unfolding first_of
  first_next i k b h s e = rw (add-one i, h, s, e)

  -- where no earlier row has the label and row i has it, row i is found
  pub first_found :
      (n i k : ℕ) → i < n → first_of i rows label ≡ Err k → same (label_of rows i) label ≡ true → first_of n rows label ≡ Ok i
  unfolding first_of
  first_found zero i k h a s = absurd (not-suc-le-zero h)
  first_found (suc n) i k h a s = go (λ l. first_found n i k l a s) (dec_lt i n)
    where
      go : (i < n → first_of n rows label ≡ Ok i) → Dec (i < n) → or_next (first_of n rows label) n (label_of rows n) label ≡ Ok i
      go earlier (yes l) = rw (earlier l)
      go earlier (no g) = let e : n ≡ i = omega arith in rw (e, a, s)

-- every count that a table fits is held by it
pub fit_held : (count : ℕ) (rows : List ℕ) → rows_fit count rows ≡ true → held count rows ≡ count
fit_held count rows fit =
    let l = fit_length count rows fit in
    let few = fit_count count rows fit in
    held_all count rows few (omega arith)

at_most_one : (b : Bool) → cond b 1 0 ≤ 1
at_most_one true = omega arith
at_most_one false = omega arith

module _ (rows label : List ℕ) where
  -- what row n makes of a search that found none before it
  pub nexts : ℕ → ℕ → Bool → Result ℕ ℕ
  nexts n k t = cond t (Ok n) (Err (k + cond (before (label_of rows n) label) 1 0))

  -- the row that is found is one of those searched, and has the label
  pub first_is : (n i : ℕ) → first_of n rows label ≡ Ok i → (i < n) × (label_of rows i ≡ label)
  unfolding first_of nexts
  first_is zero i e = let z : ◌≡◌ {A = ℕ} 0 1 = cc in absurd (omega arith)
  first_is (suc n) i e = go (first_of n rows label) refl (first_is n i) e
    where
      here : (k : ℕ) (t : Bool) → same (label_of rows n) label ≡ t → nexts n k t ≡ Ok i → (i < suc n) × (label_of rows i ≡ label)
      here k true q e = let r : n ≡ i = cc in (omega arith, rw r at (same_is (label_of rows n) label q))
      here k false q e = let z : ◌≡◌ {A = ℕ} 0 1 = cc in absurd (omega arith)

      go : (f : Result ℕ ℕ) → first_of n rows label ≡ f → (first_of n rows label ≡ Ok i → (i < n) × (label_of rows i ≡ label))
          → or_next f n (label_of rows n) label ≡ Ok i → (i < suc n) × (label_of rows i ≡ label)
      go (Ok j) p earlier e = let r = earlier (p ∙ e) in (omega arith, r.1)
      go (Err k) p earlier e = here k (same (label_of rows n) label) refl e

  -- where none is found, none of those searched has the label, and no more of them have a smaller one
  pub none_is : (n k : ℕ) → first_of n rows label ≡ Err k → (k ≤ n) × ((i : ℕ) → i < n → label_of rows i ≡ label → ⊥)
  unfolding first_of nexts
  none_is zero k e = let z : 0 ≡ k = cc in (omega arith, λ i h. absurd (not-suc-le-zero h))
  none_is (suc n) k e = go (first_of n rows label) refl (none_is n) e
    where
      here :
          (m : ℕ) → (m ≤ n) × ((i : ℕ) → i < n → label_of rows i ≡ label → ⊥)
          → (t : Bool) → same (label_of rows n) label ≡ t → nexts n m t ≡ Err k → (k ≤ suc n) × ((i : ℕ) → i < suc n → label_of rows i ≡ label → ⊥)
      here m earlier true q e = let z : ◌≡◌ {A = ℕ} 0 1 = cc in absurd (omega arith)
      here m earlier false q e =
          let r : m + cond (before (label_of rows n) label) 1 0 ≡ k = cc in
          (omega (arith, earlier.0, at_most_one (before (label_of rows n) label)), λ i h l. other i h l (dec_lt i n))
        where
          other : (i : ℕ) → i < suc n → label_of rows i ≡ label → Dec (i < n) → ⊥
          other i h l (yes g) = earlier.1 i g l
          other i h l (no g) =
              let r : n ≡ i = omega arith in
              let s : same (label_of rows n) label ≡ true = rw (r, l) (same_refl label) in
              let z : ◌≡◌ {A = Bool} true false = sym s ∙ q in
              let y : ◌≡◌ {A = ℕ} 0 1 = cc in absurd (omega arith)

      go :
          (f : Result ℕ ℕ) → first_of n rows label ≡ f
          → ((m : ℕ) → first_of n rows label ≡ Err m → (m ≤ n) × ((i : ℕ) → i < n → label_of rows i ≡ label → ⊥))
          → or_next f n (label_of rows n) label ≡ Err k → (k ≤ suc n) × ((i : ℕ) → i < suc n → label_of rows i ≡ label → ⊥)
      go (Ok j) p earlier e = let z : ◌≡◌ {A = ℕ} 0 1 = cc in absurd (omega arith)
      go (Err m) p earlier e = here m (earlier m p) (same (label_of rows n) label) refl e

-- the same of the search in a table
pub found_is :
    (count : ℕ) (rows label : List ℕ) (i : ℕ) → rows_fit count rows ≡ true → find count rows label ≡ Ok i
    → (i < count) × (label_of rows i ≡ label)
unfolding find
found_is count rows label i fit e = first_is rows label count i (rw (fit_held count rows fit) at e)

pub absent_is :
    (count : ℕ) (rows label : List ℕ) (k : ℕ) → rows_fit count rows ≡ true → find count rows label ≡ Err k
    → (k ≤ count) × ((i : ℕ) → i < count → label_of rows i ≡ label → ⊥)
unfolding find
absent_is count rows label k fit e = none_is rows label count k (rw (fit_held count rows fit) at e)
