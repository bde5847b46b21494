-- Two records that a company cannot tell apart: active and sound, of one identity and rack, with the same rows of the company; and of the other company's rows
-- either as many, or in both no more than New gives, so that 13 is met in both or in neither. Assumes nothing.
use mathlib.Core.Path.{◌≡◌, refl, sym, ap, ap₂, ◌∙◌}
use mathlib.Core.Bool.{Bool, true, false, not, cond}
use mathlib.Core.List.{List, ◌++◌}
use Prim.Native.Nat.{ℕ, ◌+◌, ◌≤◌, ◌<◌}
use native.Mathlib.Omega.{arith}
use borrow.Author.Tests.{eq-eqb, ne_eqb}
use lib.ListN.{length}
use lib.Dec.{eqb, ltb}
use Rattle.refusals.specs.{area_too_short, not_active}
use Rattle.refusals.specs.Order.{Test}
use Rattle.refusals.specs.Order as order
use Rattle.rows.specs.Sizes.{most_rows}
use Rattle.rules.specs.Record.{active, sound}
use Rattle.rules.specs.Outcomes.{Lent, lending, readiness}
use Rattle.rules.specs.Rows.{is_absent, row_number, sought, present_tail, present_height}
use Rattle.rules.specs.Companies.{most_of_one, company, belongs}
use Rattle.rules.proofs.Firsts.{sound_rows}
use Rattle.rules.proofs.Companies.{rows_of_both}
use Rattle.rules.proofs.RowsParts.{row_at, same_tail, same_height}
use Rattle.safety.specs.Calls.{Keeper, lent}
use Rattle.companies.specs.Runs.{rows_in}
use Rattle.companies.proofs.CompanyRows.{counted}
use Rattle.companies.proofs.Shown.{Sight, neither, both, same_sight}

pub data Room (o p : ℕ) : Type 0 where
  fixed : o ≡ p → Room o p
  within : o ≤ most_of_one → p ≤ most_of_one → Room o p

pub record Standing (k : Keeper) : Type 0 where
  pub acts : k.head.status ≡ active
  pub sounds : sound k.head k.table ≡ true

pub record Alike (first : Bool) (k l : Keeper) : Type 0 where
  pub here : Standing k
  pub there : Standing l
  pub identity : k.head.identity ≡ l.head.identity
  pub own : k.head.own ≡ l.head.own
  pub rows : rows_in first k ≡ rows_in first l
  pub room : Room (length (rows_in (not first) k)) (length (rows_in (not first) l))

pub alike_itself : (first : Bool) (k : Keeper) → Standing k → Alike first k k
alike_itself first k s = record { here = s; there = s; identity = refl; own = refl; rows = refl; room = fixed refl }

-- a label of one company is none of the other's
pub one_company : (label : List ℕ) (first b : Bool) → belongs label first ≡ b → belongs label (not first) ≡ not b
unfolding belongs
one_company label true b e = ap not e
one_company label false b e = doubled (company label) ∙ ap not e
  where
    doubled : (c : Bool) → c ≡ not (not c)
    doubled true = refl
    doubled false = refl

pub company_is : (label : List ℕ) (first : Bool) → belongs label first ≡ true → company label ≡ first
unfolding belongs
company_is label true e = e
company_is label false e = is_false (company label) e
  where
    is_false : (c : Bool) → not c ≡ true → c ≡ false
    is_false true p = sym p
    is_false false p = refl

-- what an active keeper with a sound record refuses first
pub ready_or_short :
    (size : ℕ) (k : Keeper) (area : List ℕ) (ts : List Test) → Standing k
    → order.first (readiness size active not_active (lent k area) ++ ts) ≡ cond (ltb (length area) size) area_too_short (order.first ts)
unfolding order.first lending readiness
ready_or_short size k area ts s = rw (s.sounds, eq-eqb k.head.status active s.acts)

-- the label's row in both
pub data Seen (k l : Lent) (label : List ℕ) : Type 0 where
  gone : is_absent (sought k label) ≡ true → is_absent (sought l label) ≡ true → Seen k l label
  there : is_absent (sought k label) ≡ false → is_absent (sought l label) ≡ false → present_tail k label ≡ present_tail l label
      → present_height k label ≡ present_height l label → Seen k l label

pub same_absent : (k l : Lent) (label : List ℕ) → Seen k l label → is_absent (sought k label) ≡ is_absent (sought l label)
same_absent k l label (gone p q) = p ∙ sym q
same_absent k l label (there p q tails heights) = p ∙ sym q

module _ (first : Bool) (k l : Keeper) (alike : Alike first k l) (label area : List ℕ) (ours : belongs label first ≡ true) where
  pub seen : Seen (lent k area) (lent l area) label
  seen =
      go
      (same_sight first label ours k.head.count l.head.count k.table l.table (sound_rows k.head k.table alike.here.sounds)
      (sound_rows l.head l.table alike.there.sounds) alike.rows)
    where
      go : Sight k.table l.table (sought (lent k area) label) (sought (lent l area) label) → Seen (lent k area) (lent l area) label
      go (neither p q) = gone p q
      go (both i j p q e) =
          let n : row_number (sought (lent k area) label) ≡ i = ap row_number p in
          let m : row_number (sought (lent l area) label) ≡ j = ap row_number q in
          let r : row_at k.table (row_number (sought (lent k area) label)) ≡ row_at l.table (row_number (sought (lent l area) label)) =
          ap (row_at k.table) n ∙ e ∙ ap (row_at l.table) (sym m) in
          there (ap is_absent p) (ap is_absent q)
          (same_tail k.table l.table (row_number (sought (lent k area) label)) (row_number (sought (lent l area) label)) r)
          (same_height k.table l.table (row_number (sought (lent k area) label)) (row_number (sought (lent l area) label)) r)

-- how many rows a record has of the one company and of the other
pub count_is : (first : Bool) (k : Keeper) → k.head.count ≡ length (rows_in first k) + length (rows_in (not first) k)
count_is first k =
    sym (rows_of_both k.head.count k.table first)
    ∙ ap₂ (λ (a b : ℕ). a + b) (counted first k.head.count k.table) (counted (not first) k.head.count k.table)

-- under 39's limit the table is full in both or in neither
pub same_full :
    (first : Bool) (k l : Keeper) → Alike first k l → length (rows_in first k) < most_of_one → eqb k.head.count most_rows ≡ eqb l.head.count most_rows
same_full first k l alike few = go alike.room
  where
    a : k.head.count ≡ length (rows_in first k) + length (rows_in (not first) k)
    a = count_is first k

    b : l.head.count ≡ length (rows_in first l) + length (rows_in (not first) l)
    b = count_is first l

    same_own : length (rows_in first k) ≡ length (rows_in first l)
    same_own = ap length alike.rows

    go : Room (length (rows_in (not first) k)) (length (rows_in (not first) l)) → eqb k.head.count most_rows ≡ eqb l.head.count most_rows
    go (fixed e) = ap (λ (n : ℕ). eqb n most_rows) (a ∙ ap₂ (λ (x y : ℕ). x + y) same_own e ∙ sym b)
    go (within g h) =
        ne_eqb k.head.count most_rows (λ e. omega (arith, a, few, g))
        ∙ sym (ne_eqb l.head.count most_rows (λ e. omega (arith, b, same_own, few, h)))
