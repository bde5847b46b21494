-- What a company's rows become where a row is added to the table: its own new row in label order, and nothing else. Assumes nothing.
use mathlib.Core.Path.{◌≡◌, refl, sym, ap, ap₂, subst, ◌∙◌}
use mathlib.Core.Bool.{Bool, true, false, not, cond}
use mathlib.Core.List.{List, [], ◌∷◌, ◌++◌, append_assoc, append-nil}
use Prim.Native.Nat.{ℕ, zero, suc, ◌+◌, ◌≤◌, ◌<◌}
use native.Mathlib.Decide.{dec_lt}
use native.Mathlib.Numerals.{add-one}
use native.Mathlib.Omega.{arith}
use lib.ListN.{length, take, length-append}
use Rattle.octets.specs.Strings.{before}
use Rattle.rows.specs.Sizes.{label_bytes, most_rows}
use Rattle.rows.specs.Row.{label_of}
use Rattle.rows.specs.Table.{rows_fit}
use Rattle.rows.specs.Search.{Parts}
use Rattle.rules.specs.Companies.{belongs}
use Rattle.rules.specs.Table.{new_row, widened}
use Rattle.rules.proofs.RowsParts.{row_at, label_in, same_label}
use Rattle.companies.specs.Runs.{those, rows_of}
use Rattle.companies.proofs.WidenedFits.{row_front, row_new, label_new, row_back}
use Rattle.companies.proofs.Those.{those_append, those_all, those_none}
use Rattle.companies.proofs.CompanyRows.{part, rows_next, rows_none, one_or_none}

-- rows with a label's new row in label order
unfoldable pub smaller_label : List ℕ → List ℕ → Bool
smaller_label label row = before (take label_bytes row) label

unfoldable pub entered : List ℕ → List (List ℕ) → List (List ℕ)
entered label l = those (smaller_label label) l ++ (new_row label ∷ []) ++ those (λ row. not (smaller_label label row)) l

module _ (count : ℕ) (t label : List ℕ) (i : ℕ) (fit : rows_fit count t ≡ true) (room : count < most_rows) (place : Parts count t label i)
    (sized : length label ≡ label_bytes) (first : Bool) where
  abbrev wide : List ℕ
  wide = widened t i label

  abbrev under : List ℕ → Bool
  under = smaller_label label

  abbrev over : List ℕ → Bool
  over row = not (under row)

  part_same : (m n : ℕ) → row_at wide m ≡ row_at t n → part first wide m ≡ part first t n
  unfolding part
  part_same m n e = ap₂ (λ (l row : List ℕ). cond (belongs l first) (row ∷ []) []) (same_label wide t m n e) e

  new_part : List (List ℕ)
  new_part = cond (belongs label first) (new_row label ∷ []) []

  part_new : part first wide i ≡ new_part
  unfolding part new_part
  part_new =
      ap₂ (λ (l row : List ℕ). cond (belongs l first) (row ∷ []) []) (label_new count t label i fit room place sized)
      (row_new count t label i fit room place sized)

  module _ (m : ℕ) where
    under_is : under (row_at t m) ≡ before (label_of t m) label
    unfolding smaller_label
    under_is = ap (λ (l : List ℕ). before l label) (sym (label_in t m))

    module _ (h : m < i) where
      front_under : those under (part first t m) ≡ part first t m
      unfolding part
      front_under = those_all under (belongs (label_of t m) first) (row_at t m) (under_is ∙ place.below m h)

      front_over : those over (part first t m) ≡ []
      unfolding part
      front_over = those_none over (belongs (label_of t m) first) (row_at t m) (ap not (under_is ∙ place.below m h))

    module _ (h : i ≤ m) (l : m < count) where
      back_under : those under (part first t m) ≡ []
      unfolding part
      back_under = those_none under (belongs (label_of t m) first) (row_at t m) (under_is ∙ place.from m h l)

      back_over : those over (part first t m) ≡ part first t m
      unfolding part
      back_over = those_all over (belongs (label_of t m) first) (row_at t m) (ap not (under_is ∙ place.from m h l))

  -- in front of the place nothing changes, and all labels are smaller
  front : (n : ℕ) → n ≤ i → rows_of first n wide ≡ rows_of first n t
  front zero h = rows_none first wide ∙ sym (rows_none first t)
  front (suc n) h =
      rows_next first n wide
      ∙ ap₂ (λ (a b : List (List ℕ)). a ++ b) (front n (omega arith)) (part_same n n (row_front count t label i fit room place sized n h))
      ∙ sym (rows_next first n t)

  all_under : (n : ℕ) → n ≤ i → those under (rows_of first n t) ≡ rows_of first n t
  unfolding those
  all_under zero h = ap (those under) (rows_none first t) ∙ sym (rows_none first t)
  all_under (suc n) h =
      ap (those under) (rows_next first n t) ∙ those_append under (rows_of first n t) (part first t n)
      ∙ ap₂ (λ (a b : List (List ℕ)). a ++ b) (all_under n (omega arith)) (front_under n h) ∙ sym (rows_next first n t)

  none_over : (n : ℕ) → n ≤ i → those over (rows_of first n t) ≡ []
  unfolding those
  none_over zero h = ap (those over) (rows_none first t)
  none_over (suc n) h =
      ap (those over) (rows_next first n t) ∙ those_append over (rows_of first n t) (part first t n)
      ∙ ap₂ (λ (a b : List (List ℕ)). a ++ b) (none_over n (omega arith)) (front_over n h)

  -- the rows from the place on go behind the new one
  record Parted (n : ℕ) : Type 0 where
    rest : List (List ℕ)
    whole : rows_of first n t ≡ rows_of first i t ++ rest
    wider : rows_of first (suc n) wide ≡ rows_of first i t ++ new_part ++ rest
    not_under : those under rest ≡ []
    all_over : those over rest ≡ rest

  parted_at : Parted i
  unfolding those
  parted_at =
      record {
        rest = [];
        whole = sym (append-nil (rows_of first i t));
        wider =
            rows_next first i wide ∙ ap₂ (λ (a b : List (List ℕ)). a ++ b) (front i (omega arith)) part_new
            ∙ sym (append-nil (rows_of first i t ++ new_part));
        not_under = refl;
        all_over = refl;
      }

  parted_next : (n : ℕ) → i ≤ n → n < count → Parted n → Parted (suc n)
  parted_next n h l p =
      record {
        rest = p.rest ++ part first t n;
        whole =
            rows_next first n t ∙ ap (λ (a : List (List ℕ)). a ++ part first t n) p.whole
            ∙ append_assoc (rows_of first i t) p.rest (part first t n);
        wider =
            rows_next first (suc n) wide
            ∙ ap₂ (λ (a b : List (List ℕ)). a ++ b) p.wider (part_same (suc n) n (row_back count t label i fit room place sized n h l))
            ∙ append_assoc (rows_of first i t ++ new_part) p.rest (part first t n);
        not_under =
            those_append under p.rest (part first t n) ∙ ap₂ (λ (a b : List (List ℕ)). a ++ b) p.not_under (back_under n h l);
        all_over =
            those_append over p.rest (part first t n) ∙ ap₂ (λ (a b : List (List ℕ)). a ++ b) p.all_over (back_over n h l);
      }

  parted : (n : ℕ) → i ≤ n → n ≤ count → Parted n
  parted zero h l = let e : i ≡ 0 = omega arith in subst Parted e parted_at
  parted (suc n) h l = go (dec_lt n i) (λ g. parted n g (omega arith))
    where
      go : Dec (n < i) → (i ≤ n → Parted n) → Parted (suc n)
      go (yes g) earlier = let e : i ≡ suc n = omega arith in subst Parted e parted_at
      go (no g) earlier = parted_next n (omega arith) l (earlier (omega arith))

  at_end : Parted count
  at_end = parted count place.within (omega arith)

  last : rows_of first (count + 1) wide ≡ rows_of first (suc count) wide
  last = ap (λ (n : ℕ). rows_of first n wide) (add-one count)

  pub widened_other : belongs label first ≡ false → rows_of first (count + 1) wide ≡ rows_of first count t
  unfolding new_part
  widened_other other =
      let p = at_end in
      last ∙ p.wider ∙ ap (λ (b : Bool). rows_of first i t ++ cond b (new_row label ∷ []) [] ++ p.rest) other
      ∙ ap (λ (l : List (List ℕ)). l ++ p.rest) (append-nil (rows_of first i t)) ∙ sym p.whole

  pub widened_own : belongs label first ≡ true → rows_of first (count + 1) wide ≡ entered label (rows_of first count t)
  unfolding new_part entered
  widened_own own =
      let p = at_end in
      let smaller : those under (rows_of first count t) ≡ rows_of first i t =
      ap (those under) p.whole ∙ those_append under (rows_of first i t) p.rest
      ∙ ap₂ (λ (a b : List (List ℕ)). a ++ b) (all_under i (omega arith)) p.not_under ∙ append-nil (rows_of first i t) in
      let greater : those over (rows_of first count t) ≡ p.rest =
      ap (those over) p.whole ∙ those_append over (rows_of first i t) p.rest
      ∙ ap₂ (λ (a b : List (List ℕ)). a ++ b) (none_over i (omega arith)) p.all_over in
      last ∙ p.wider ∙ ap (λ (b : Bool). rows_of first i t ++ cond b (new_row label ∷ []) [] ++ p.rest) own
      ∙ ap₂ (λ (a b : List (List ℕ)). a ++ (new_row label ∷ []) ++ b) (sym smaller) (sym greater)

  -- one row more of the label's company
  pub widened_count : length (rows_of first (count + 1) wide) ≡ length (rows_of first count t) + cond (belongs label first) 1 0
  unfolding new_part
  widened_count =
      let p = at_end in
      let l : List (List ℕ) = rows_of first i t in
      let one : length new_part ≡ cond (belongs label first) 1 0 = one_or_none (belongs label first) (new_row label) in
      ap length (last ∙ p.wider) ∙ length-append (l ++ new_part) p.rest
      ∙ omega (arith, length-append l new_part, ap length p.whole, length-append l p.rest)
