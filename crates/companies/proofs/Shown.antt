-- The row that a search finds for a company's label goes by the company's rows alone. Assumes nothing.
use mathlib.Core.Path.{◌≡◌, refl, sym, ap, ap₂, ◌∙◌}
use mathlib.Core.Bool.{Bool, true, false, cond}
use mathlib.Core.List.{List, [], ◌∷◌, ◌++◌}
use mathlib.Core.Option.{Option, none, some}
use Prim.Native.Nat.{ℕ, zero, suc, ◌+◌}
use native.Mathlib.Omega.{arith}
use lib.ListN.{take}
use Rattle.octets.specs.Strings.{same, before}
use Rattle.octets.proofs.RoundTrips.{same_is}
use Rattle.std.specs.Prelude.{Result, Ok, Err}
use Rattle.rows.specs.Sizes.{label_bytes}
use Rattle.rows.specs.Row.{label_of}
use Rattle.rows.specs.Table.{rows_fit}
use Rattle.rows.specs.Search.{or_next, first_of, find}
use Rattle.rows.proofs.Searches.{fit_held}
use Rattle.rules.specs.Rows.{is_absent}
use Rattle.rules.specs.Companies.{belongs}
use Rattle.rules.proofs.RowsParts.{row_at, label_in}
use Rattle.companies.specs.Runs.{rows_of}
use Rattle.companies.proofs.Orders.{never}
use Rattle.companies.proofs.CompanyRows.{part, rows_next, rows_none}

-- the first of two that is there
unfoldable or_this : Option (List ℕ) → Option (List ℕ) → Option (List ℕ)
or_this (some x) later = some x
or_this none later = later

-- the first row with a label
unfoldable row_with : List ℕ → List (List ℕ) → Option (List ℕ)
row_with label [] = none
row_with label (row ∷ l) = cond (same (take label_bytes row) label) (some row) (row_with label l)

-- the row that a search finds
unfoldable shown : List ℕ → Result ℕ ℕ → Option (List ℕ)
shown t (Ok i) = some (row_at t i)
shown t (Err k) = none

module _ (label : List ℕ) where
  chosen : (b : Bool) (row : List ℕ) (l m n : Option (List ℕ)) → n ≡ or_this l m → cond b (some row) n ≡ or_this (cond b (some row) l) m
  unfolding or_this
  chosen true row l m n e = refl
  chosen false row l m n e = e

  with_append : (l m : List (List ℕ)) → row_with label (l ++ m) ≡ or_this (row_with label l) (row_with label m)
  unfolding row_with or_this
  with_append [] m = refl
  with_append (row ∷ l) m =
      chosen (same (take label_bytes row) label) row (row_with label l) (row_with label m) (row_with label (l ++ m)) (with_append l m)

  -- what row n adds to a search
  shown_next :
      (t : List ℕ) (n : ℕ) (f : Result ℕ ℕ)
      → or_this (shown t f) (cond (same (label_of t n) label) (some (row_at t n)) none) ≡ shown t (or_next f n (label_of t n) label)
  unfolding shown or_this
  shown_next t n (Ok i) = refl
  shown_next t n (Err k) = go (same (label_of t n) label)
    where
      go : (s : Bool) → cond s (some (row_at t n)) none ≡ shown t (cond s (Ok n) (Err (k + cond (before (label_of t n) label) 1 0)))
      go true = refl
      go false = refl

  module _ (first : Bool) (own : belongs label first ≡ true) where
    -- one row
    part_with : (t : List ℕ) (n : ℕ) → row_with label (part first t n) ≡ cond (same (label_of t n) label) (some (row_at t n)) none
    unfolding part row_with
    part_with t n = go (same (label_of t n) label) refl
      where
        found : (b : Bool) → belongs (label_of t n) first ≡ b → label_of t n ≡ label → same (take label_bytes (row_at t n)) label ≡ true
            → row_with label (cond b (row_at t n ∷ []) []) ≡ some (row_at t n)
        found true p e s = rw s
        found false p e s = never (sym p ∙ ap (λ (l : List ℕ). belongs l first) e ∙ own)

        missed : (b : Bool) → same (take label_bytes (row_at t n)) label ≡ false → row_with label (cond b (row_at t n ∷ []) []) ≡ none
        missed true s = rw s
        missed false s = refl

        go : (s : Bool) → same (label_of t n) label ≡ s
            → row_with label (cond (belongs (label_of t n) first) (row_at t n ∷ []) []) ≡ cond s (some (row_at t n)) none
        go true s =
            found (belongs (label_of t n) first) refl (same_is (label_of t n) label s)
            (ap (λ (l : List ℕ). same l label) (sym (label_in t n)) ∙ s)
        go false s = missed (belongs (label_of t n) first) (ap (λ (l : List ℕ). same l label) (sym (label_in t n)) ∙ s)

    shown-first : (n : ℕ) (t : List ℕ) → row_with label (rows_of first n t) ≡ shown t (first_of n t label)
    unfolding first_of shown row_with
    shown-first zero t = ap (row_with label) (rows_none first t)
    shown-first (suc n) t =
        ap (row_with label) (rows_next first n t) ∙ with_append (rows_of first n t) (part first t n)
        ∙ ap₂ or_this (shown-first n t) (part_with t n) ∙ shown_next t n (first_of n t label)

    shown_found : (n : ℕ) (t : List ℕ) → rows_fit n t ≡ true → row_with label (rows_of first n t) ≡ shown t (find n t label)
    unfolding find
    shown_found n t fit = shown-first n t ∙ ap (λ (m : ℕ). shown t (first_of m t label)) (sym (fit_held n t fit))

-- a label that two tables have both or neither, and then in the same row
pub data Sight (t u : List ℕ) (f g : Result ℕ ℕ) : Type 0 where
  neither : is_absent f ≡ true → is_absent g ≡ true → Sight t u f g
  both : (i j : ℕ) → f ≡ Ok i → g ≡ Ok j → row_at t i ≡ row_at u j → Sight t u f g

sight : (t u : List ℕ) (f g : Result ℕ ℕ) → shown t f ≡ shown u g → Sight t u f g
unfolding shown
sight t u (Ok i) (Ok j) e = both i j refl refl cc
sight t u (Ok i) (Err k) e = let z : ◌≡◌ {A = ℕ} 0 1 = cc in absurd (omega arith)
sight t u (Err k) (Ok j) e = let z : ◌≡◌ {A = ℕ} 0 1 = cc in absurd (omega arith)
sight t u (Err k) (Err m) e = neither refl refl

-- so it is where the company's rows are the same
pub same_sight :
    (first : Bool) (label : List ℕ) → belongs label first ≡ true → (n m : ℕ) (t u : List ℕ) → rows_fit n t ≡ true → rows_fit m u ≡ true
    → rows_of first n t ≡ rows_of first m u → Sight t u (find n t label) (find m u label)
same_sight first label own n m t u fit fit' e =
    sight t u (find n t label) (find m u label)
    (sym (shown_found label first own n t fit) ∙ ap (row_with label) e ∙ shown_found label first own m u fit')
