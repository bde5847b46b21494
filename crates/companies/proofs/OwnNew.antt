-- A company's New at two records that it cannot tell apart: one answer, one output area, and the records cannot be told apart again. Assumes nothing.
use mathlib.Core.Path.{◌≡◌, refl, sym, ap, ap₂, ◌∙◌}
use mathlib.Core.Bool.{Bool, true, false, not, cond}
use mathlib.Core.List.{List, [], ◌∷◌}
use Prim.Native.Nat.{ℕ}
use native.Mathlib.Omega.{arith}
use borrow.Author.Tests.{leb-false}
use lib.ListN.{length}
use lib.Dec.{eqb, leb, ltb}
use Rattle.refusals.specs.{area_too_short, label_zero, ledger_exists, company_full, table_full}
use Rattle.refusals.specs.Order.{Test, ◌⇒◌, first}
use Rattle.octets.specs.Strings.{all_zero}
use Rattle.rows.specs.Sizes.{label_bytes, most_rows}
use Rattle.statement.specs.declared.Kind.TheVariants as kinds
use Rattle.statement.specs.Kinds.{receipt_size}
use Rattle.statement.specs.Contents.{statement_written}
use Rattle.statement.specs.Cut.{no_digest}
use Rattle.rules.specs.Outcomes.{Lent, given}
use Rattle.rules.specs.Rows.{is_absent, sought, receipt_of}
use Rattle.rules.specs.Companies.{most_of_one, company, belongs, company_rows}
use Rattle.rules.specs.New.{new_refusal, making}
use Rattle.rules.proofs.Noted.{Makeable, makeable}
use Rattle.safety.specs.Calls.{Keeper, lent}
use Rattle.companies.specs.Runs.{rows_in}
use Rattle.companies.proofs.CompanyRows.{counted}
use Rattle.companies.proofs.CompanyWidened.{entered}
use Rattle.companies.proofs.Left as left
use Rattle.companies.proofs.Alike.{Alike, one_company, company_is, ready_or_short, Seen, same_absent, same_full}
use Rattle.companies.proofs.Told.{ToldAlike, same_heights, same_room, unless_alike, given-alike, sight}

module _ (c : Bool) (k l : Keeper) (alike : Alike c k l) (area label : List ℕ) (ours : belongs label c ≡ true) where
  abbrev K : Lent
  K = lent k area

  abbrev L : Lent
  L = lent l area

  abbrev new_tests : Bool → Bool → Bool → List Test
  new_tests absent limited full =
      (all_zero label ⇒ label_zero) ∷ (not absent ⇒ ledger_exists) ∷ (limited ⇒ company_full) ∷ (full ⇒ table_full) ∷ []

  limit : Keeper → Bool
  limit q = leb most_of_one (company_rows q.head.count q.table (company label))

  count-ours : (q : Keeper) → company_rows q.head.count q.table (company label) ≡ length (rows_in c q)
  count-ours q = ap (company_rows q.head.count q.table) (company_is label c ours) ∙ counted c q.head.count q.table

  same_limit : limit k ≡ limit l
  unfolding limit
  same_limit = ap (leb most_of_one) (count-ours k ∙ ap length alike.rows ∙ sym (count-ours l))

  -- 39 met, or 13 met in both or in neither
  new_first : Seen K L label
      → first (new_tests (is_absent (sought K label)) (limit k) (eqb k.head.count most_rows))
      ≡ first (new_tests (is_absent (sought L label)) (limit l) (eqb l.head.count most_rows))
  unfolding limit first
  new_first s =
      ap₂ (λ (a b : Bool). first (new_tests a b (eqb k.head.count most_rows))) (same_absent K L label s) same_limit ∙ go (limit l) refl
    where
      go : (b : Bool) → limit l ≡ b
          → first (new_tests (is_absent (sought L label)) b (eqb k.head.count most_rows))
          ≡ first (new_tests (is_absent (sought L label)) b (eqb l.head.count most_rows))
      go true e = refl
      go false e =
          let few = leb-false most_of_one (company_rows k.head.count k.table (company label)) (same_limit ∙ e) in
          ap (λ (f : Bool). first (new_tests (is_absent (sought L label)) false f)) (same_full c k l alike (omega (arith, few, count-ours k)))

  new_numbers : new_refusal K label ≡ new_refusal L label
  unfolding new_refusal limit
  new_numbers =
      ready_or_short receipt_size k area (new_tests (is_absent (sought K label)) (limit k) (eqb k.head.count most_rows)) alike.here
      ∙ ap (λ (n : ℕ). cond (ltb (length area) receipt_size) area_too_short n) (new_first (sight c k l alike area label ours))
      ∙ sym (ready_or_short receipt_size l area (new_tests (is_absent (sought L label)) (limit l) (eqb l.head.count most_rows)) alike.there)

  abbrev new_bytes : Keeper → List ℕ
  new_bytes q = statement_written (receipt_of q.head kinds.New label no_digest)

  module _ (sized : length label ≡ label_bytes) where
    new_left : Makeable K label → Makeable L label → Alike c (left.wider K label) (left.wider L label)
    new_left m n =
        let theirs : belongs label (not c) ≡ false = one_company label c true ours in
        record {
          here = record { acts = alike.here.acts; sounds = left.widened_sound K label m sized };
          there = record { acts = alike.there.acts; sounds = left.widened_sound L label n sized };
          identity = alike.identity;
          own = alike.own;
          rows = left.widened_ours K label m sized c ours ∙ ap (entered label) alike.rows ∙ sym (left.widened_ours L label n sized c ours);
          room =
              same_room _ _ _ _ (ap length (left.widened_theirs K label m sized (not c) theirs))
              (ap length (left.widened_theirs L label n sized (not c) theirs)) alike.room;
        }

    pub making-alike : ToldAlike c (making K label) (making L label)
    unfolding making
    making-alike =
        unless_alike c k l alike area (new_refusal K label) (new_refusal L label) 0 0
        (given (new_bytes k) (left.wider K label).head (left.wider K label).table area)
        (given (new_bytes l) (left.wider L label).head (left.wider L label).table area) new_numbers (same_heights refl)
        (λ p q.
        given-alike c k l alike area (new_bytes k) (new_bytes l) (left.wider K label).head (left.wider L label).head (left.wider K label).table
        (left.wider L label).table
        (λ i. statement_written
        (record {
          kind = kinds.New;
          identity = alike.identity i;
          own = alike.own i;
          label = label;
          tail = no_digest;
          other = no_digest;
          roll = no_digest;
        }))
        (new_left (makeable K label p) (makeable L label q)))
