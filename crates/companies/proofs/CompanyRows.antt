-- Laws of a company's rows: how many they are, the row of a label among them, and what they become where a row is moved on or added. Assumes nothing.
use mathlib.Core.Path.{◌≡◌, refl, sym, ap, ap₂, ◌∙◌}
use mathlib.Core.Bool.{Bool, true, false, cond}
use mathlib.Core.List.{List, [], ◌∷◌, ◌++◌}
use Prim.Native.Nat.{ℕ, zero, suc, ◌+◌}
use native.Mathlib.Numerals.{add-one}
use lib.ListN.{length, take, length-append}
use Rattle.octets.specs.Strings.{pieces}
use Rattle.octets.proofs.Pieces.{pieces_snoc}
use Rattle.rows.specs.Sizes.{label_bytes, row_bytes}
use Rattle.rows.specs.Row.{label_of}
use Rattle.rules.specs.Companies.{belongs, company_rows}
use Rattle.rules.proofs.RowsParts.{row_at, label_in}
use Rattle.companies.specs.Runs.{those, rows_of}
use Rattle.companies.proofs.Those.{those_append}

-- row n where it is the company's
unfoldable pub part : Bool → List ℕ → ℕ → List (List ℕ)
part first t n = cond (belongs (label_of t n) first) (row_at t n ∷ []) []

pub one_or_none : (b : Bool) (row : List ℕ) → length (cond b (row ∷ []) []) ≡ cond b 1 0
one_or_none true row = refl
one_or_none false row = refl

module _ (first : Bool) where
  abbrev ours : List ℕ → Bool
  ours row = belongs (take label_bytes row) first

  pub rows_next : (n : ℕ) (t : List ℕ) → rows_of first (suc n) t ≡ rows_of first n t ++ part first t n
  unfolding rows_of part row_at those
  rows_next n t =
      ap (λ (j : ℕ). those ours (pieces row_bytes j t)) (sym (add-one n))
      ∙ ap (those ours) (pieces_snoc row_bytes n t)
      ∙ those_append ours (pieces row_bytes n t) (row_at t n ∷ [])
      ∙ ap (λ (l : List ℕ). those ours (pieces row_bytes n t) ++ cond (belongs l first) (row_at t n ∷ []) []) (sym (label_in t n))

  pub rows_none : (t : List ℕ) → rows_of first zero t ≡ []
  unfolding rows_of pieces those
  rows_none t = refl

  pub part_counted : (t : List ℕ) (n : ℕ) → length (part first t n) ≡ cond (belongs (label_of t n) first) 1 0
  unfolding part
  part_counted t n = one_or_none (belongs (label_of t n) first) (row_at t n)

  -- the count that New goes by is how many they are
  pub counted : (n : ℕ) (t : List ℕ) → company_rows n t first ≡ length (rows_of first n t)
  unfolding company_rows
  counted zero t = ap length (sym (rows_none t))
  counted (suc n) t =
      ap₂ (λ (a b : ℕ). a + b) (counted n t) (sym (part_counted t n))
      ∙ sym (length-append (rows_of first n t) (part first t n)) ∙ ap length (sym (rows_next n t))
