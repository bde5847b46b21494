-- Laws of the companies: the border, the rows of the one and of the other, and what the limit makes of New. Assumes nothing.
use mathlib.Core.Path.{◌≡◌, refl, sym, ap, ◌∙◌}
use mathlib.Core.Bool.{Bool, true, false, not, cond}
use mathlib.Core.List.{List, [], ◌∷◌}
use Prim.Native.Nat.{ℕ, zero, suc, ◌+◌, ◌*◌, ◌≤◌, ◌<◌}
use native.Mathlib.Numerals.{add-one}
use native.Mathlib.Omega.{arith}
use borrow.Author.Tests.{eqb-true, eqb-false, eq-eqb, ne_eqb, le-leb, lt-leb, leb-false}
use lib.ListN.{take, drop, get_or}
use lib.Seq.{get_or-take, get_or-drop}
use lib.Dec.{eqb, leb}
use Rattle.refusals.specs.{accepted, not_active, label_zero, ledger_exists, company_full, table_full}
use Rattle.refusals.specs.Order.{Test, ◌⇒◌, first}
use Rattle.refusals.proofs.Orders.{numbered, first_then, lacks, lacking}
use Rattle.octets.specs.Strings.{all_zero}
use Rattle.rows.specs.Sizes.{label_bytes, row_bytes, most_rows}
use Rattle.rows.specs.Row.{label_of}
use Rattle.statement.specs.Kinds.{receipt_size}
use Rattle.rules.specs.Record.{active}
use Rattle.rules.specs.Outcomes.{Lent, lending, readiness}
use Rattle.rules.specs.Rows.{is_absent, sought}
use Rattle.rules.specs.Companies.{most_of_one, company, belongs, company_rows}
use Rattle.rules.specs.New.{new_refusal}
use Rattle.rules.proofs.Firsts.{Ready}
use Rattle.rules.proofs.Prepared.{ready_by}

-- the border
pub first_at_127 : (label : List ℕ) → get_or label 0 0 ≡ 127 → company label ≡ true
unfolding company
first_at_127 label e = rw e

pub second_at_128 : (label : List ℕ) → get_or label 0 0 ≡ 128 → company label ≡ false
unfolding company
second_at_128 label e = rw e

-- the first byte of a row says whose it is
pub row_belongs : (rows : List ℕ) (i : ℕ) (of : Bool) → belongs (get_or rows (row_bytes * i) 0 ∷ []) of ≡ belongs (label_of rows i) of
unfolding belongs company label_of
row_belongs rows i of =
    let at : ℕ = row_bytes * i in
    let z : at + 0 ≡ at = omega arith in
    let e : get_or (take label_bytes (drop at rows)) 0 0 ≡ get_or rows at 0 =
    get_or-take label_bytes (drop at rows) 0 0 (omega arith) ∙ get_or-drop at rows 0 0 ∙ ap (λ (n : ℕ). get_or rows n 0) z in
    rw e

pub rows_more : (n : ℕ) (rows : List ℕ) (of : Bool) → company_rows (n + 1) rows of ≡ company_rows n rows of + cond (belongs (label_of rows n) of) 1 0
unfolding company_rows
rows_more n rows of = rw (add-one n)

-- a row more, by its first byte
pub row_counted :
    (n : ℕ) (rows : List ℕ) (of : Bool)
    → company_rows (n + 1) rows of ≡ company_rows n rows of + cond (belongs (get_or rows (row_bytes * n) 0 ∷ []) of) 1 0
row_counted n rows of = rows_more n rows of ∙ ap (λ (b : Bool). company_rows n rows of + cond b 1 0) (sym (row_belongs rows n of))

-- each row belongs to one of the two
one_of_two : (label : List ℕ) (of : Bool) → cond (belongs label of) 1 0 + cond (belongs label (not of)) 1 0 ≡ 1
unfolding belongs
one_of_two label of = go of (company label)
  where
    go : (of c : Bool) → cond (cond of c (not c)) 1 0 + cond (cond (not of) c (not c)) 1 0 ≡ 1
    go true true = refl
    go true false = refl
    go false true = refl
    go false false = refl

pub rows_of_both : (n : ℕ) (rows : List ℕ) (of : Bool) → company_rows n rows of + company_rows n rows (not of) ≡ n
unfolding company_rows
rows_of_both zero rows of = refl
rows_of_both (suc n) rows of = omega (arith, rows_of_both n rows of, one_of_two (label_of rows n) of)

pub rows_most : (n : ℕ) (rows : List ℕ) (of : Bool) → company_rows n rows of ≤ n
rows_most n rows of = omega (arith, rows_of_both n rows of)

module _ (k : Lent) (label : List ℕ) where
  -- the rows of the label's company, and of the other
  abbrev pub own : ℕ
  own = company_rows k.head.count k.table (company label)

  abbrev pub others : ℕ
  others = company_rows k.head.count k.table (not (company label))

  -- of a new label at a keeper that is ready the rows decide
  module _ (r : Ready receipt_size active k) (labelled : all_zero label ≡ false) (new : is_absent (sought k label) ≡ true) where
    decides : new_refusal k label ≡ cond (leb most_of_one own) company_full (cond (eqb k.head.count most_rows) table_full accepted)
    unfolding new_refusal first
    decides = ready_by receipt_size k r.room r.sounds active not_active _ r.acts ∙ rw (labelled, new)

    -- "a company with 31 rows or more", with a full table too
    pub company_refuses : most_of_one ≤ own → new_refusal k label ≡ company_full
    company_refuses many = decides ∙ rw (le-leb most_of_one own many)

    pub table_refuses : own < most_of_one → k.head.count ≡ most_rows → new_refusal k label ≡ table_full
    table_refuses few full = decides ∙ rw (lt-leb most_of_one own few, eq-eqb k.head.count most_rows full)

    -- what the other company may get by New leaves room
    pub other_lets_by : own < most_of_one → others ≤ most_of_one → new_refusal k label ≡ accepted
    other_lets_by few theirs =
        let room : (k.head.count ≡ most_rows → ⊥) = λ full. omega (arith, rows_of_both k.head.count k.table (company label)) in
        decides ∙ rw (lt-leb most_of_one own few, ne_eqb k.head.count most_rows room)

-- what other tests than these answer is left to these
rests : (n later : ℕ) (b : Bool) → eqb n accepted ≡ b → eqb n table_full ≡ false → cond b later n ≡ table_full → later ≡ table_full
rests n later true t other e = e
rests n later false t other e = absurd (eqb-false n table_full other e)

-- where 13 is answered, 14, 9 and 39 do not hold
no_other : (a b c d : Bool) → cond a label_zero (cond b ledger_exists (cond c company_full (cond d table_full accepted))) ≡ table_full → (c ≡ false) × (d ≡ true)
no_other true b c d e = absurd (omega (arith, e))
no_other false true c d e = absurd (omega (arith, e))
no_other false false true d e = absurd (omega (arith, e))
no_other false false false true e = (refl, refl)
no_other false false false false e = absurd (omega (arith, e))

-- "Only then can .. 13 still be met": 63 rows, of which the asking company has at most 30
pub only_then : (k : Lent) (label : List ℕ) → new_refusal k label ≡ table_full → (k.head.count ≡ most_rows) × (own k label < most_of_one)
unfolding new_refusal readiness lending numbered lacks first
only_then k label e =
    let asked : List Test = readiness receipt_size active not_active k in
    let rest : List Test =
    (all_zero label ⇒ label_zero) ∷ (not (is_absent (sought k label)) ⇒ ledger_exists) ∷ (leb most_of_one (own k label) ⇒ company_full)
    ∷ (eqb k.head.count most_rows ⇒ table_full) ∷ [] in
    let left : first rest ≡ table_full =
    rests (first asked) (first rest) (eqb (first asked) accepted) refl (lacking table_full asked refl) (sym (first_then asked rest refl) ∙ e) in
    let t = no_other (all_zero label) (not (is_absent (sought k label))) (leb most_of_one (own k label)) (eqb k.head.count most_rows) left in
    (eqb-true k.head.count most_rows t.1, leb-false most_of_one (own k label) t.0)
