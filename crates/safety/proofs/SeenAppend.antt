-- Append notes a row that is moved on. Assumes nothing.
use mathlib.Core.Path.{◌≡◌, refl, ap, ◌∙◌}
use mathlib.Core.Bool.{not}
use mathlib.Core.List.{List, [], ◌∷◌, map}
use lib.ListN.{length}
use Prim.Native.Nat.{ℕ}
use native.Mathlib.Omega.{arith}
use Rattle.statement.specs.declared.Kind.TheVariants.{Append}
use Rattle.statement.specs.declared.Statement.{Statement}
use Rattle.statement.specs.Kinds.{label_bytes, receipt_size}
use Rattle.statement.specs.Cut.{cut_statement}
use Rattle.rules.specs.Outcomes.{given}
use Rattle.rules.specs.Rows.{present_tail, present_height}
use Rattle.rules.specs.Append.{append_refusal, next_tail, next_height, moved_on, append_statement, appending}
use Rattle.rules.proofs.FoundRows.{row_labelled}
use Rattle.rules.proofs.Noted.{row_of, Appendable, appendable}
use Rattle.safety.specs.Calls.{Keeper, Call, lent, outcome_of, left_by, statements_in}
use Rattle.safety.specs.Calls as calls
use Rattle.safety.proofs.Views.{roll_in, View, notes, Grows, look, standing}
use Rattle.safety.proofs.Tales.{says}
use Rattle.safety.proofs.Ended.{unless_refused, Gives, gives, seen_by, alone_in}
use Rattle.safety.proofs.Sizes.{Whole, appended_long}
use Rattle.safety.proofs.LooksChanged.{moved_shows, moved_grows}
use Rattle.safety.proofs.Receipts.{Signed, append_signed, notes_one}

-- the keeper after an append: its row as it then stands, and every row reached
module _ (k : Keeper) (label entry area : List ℕ) (a : Appendable (lent k area) label) where
  abbrev appended_to : Keeper
  appended_to = record { head = k.head; table = moved_on (lent k area) label entry }

  pub append_shows : look (roll_in appended_to) label ≡ standing (next_height (lent k area) label) (next_tail (lent k area) label entry)
  unfolding moved_on
  append_shows =
      moved_shows k.head.count k.table (row_of (lent k area) label) (next_tail (lent k area) label entry) (next_height (lent k area) label)
      a.has.within (appended_long (present_tail (lent k area) label) entry) (omega (arith, a.below_top)) label a.has.found

  pub append_grows : Grows (roll_in k) (roll_in appended_to)
  unfolding moved_on
  append_grows =
      moved_grows k.head.count k.table (row_of (lent k area) label) (next_tail (lent k area) label entry) (next_height (lent k area) label)
      a.has.within (appended_long (present_tail (lent k area) label) entry) (omega (arith, a.below_top)) (omega arith)

  pub append_said : Whole k.head → length label ≡ label_bytes → Signed appended_to receipt_size (append_statement (lent k area) label entry)
  unfolding append_statement
  append_said whole sized =
      append_signed k.head whole label (next_tail (lent k area) label entry) (sized) (appended_long (present_tail (lent k area) label) entry)
      appended_to refl refl (next_height (lent k area) label) (ap not (row_labelled label (present_tail (lent k area) label) (present_height (lent k area) label) a.has.holds))
      (omega arith) (omega (arith, a.below_top)) append_shows

module _ (Hashes : List ℕ → Type 0) (Said : List ℕ → Statement → Type 0) (key : List ℕ) (k : Keeper) (label entry : List ℕ) (expected : ℕ) (area : List ℕ) where
  abbrev this : Call
  this = calls.Append label entry expected area

  abbrev word : List ℕ
  word = append_statement (lent k area) label entry

  abbrev left : Keeper
  left = record { head = k.head; table = moved_on (lent k area) label entry }

  abbrev Looks : Type 0
  Looks = View Hashes Said k (left_by key k this) (says key k this)

  module _ (whole : Whole k.head) (sized : length label ≡ label_bytes) where
    noting : Appendable (lent k area) label → Gives key k this word k.head (moved_on (lent k area) label entry) area → Looks
    unfolding statements_in
    noting a g =
        let s = append_said k label entry area a whole sized in
        seen_by g.leaves (ap (map cut_statement) g.signs ∙ ap (λ (t : List ℕ). cut_statement t ∷ []) (alone_in area word receipt_size s.long))
        (notes (record {
          was = a.has.was;
          is = a.has.was;
          stays = record { identity = refl; own = refl; previous = refl };
          grows = append_grows k label entry area a;
          notes = notes_one left (cut_statement word) s.shows;
        }))

    pub seen_append : Looks
    unfolding outcome_of appending
    seen_append =
        unless_refused key k this Hashes Said (append_refusal receipt_size (lent k area) label expected) _ area (given word k.head (moved_on (lent k area) label entry) area) refl
        (λ e o. noting (appendable receipt_size (lent k area) label expected e) (gives key k this word k.head (moved_on (lent k area) label entry) area o))
