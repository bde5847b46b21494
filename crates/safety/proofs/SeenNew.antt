-- New notes a row that was not there. Assumes nothing.
use mathlib.Core.Path.{◌≡◌, refl, ap, ◌∙◌}
use mathlib.Core.Bool.{true, not}
use mathlib.Core.List.{List, [], ◌∷◌, map}
use lib.ListN.{length}
use Prim.Native.Nat.{ℕ}
use Rattle.octets.specs.Strings.{all_zero}
use Rattle.statement.specs.declared.Kind.TheVariants.{New}
use Rattle.statement.specs.declared.Statement.{Statement}
use Rattle.statement.specs.Kinds.{label_bytes, receipt_size}
use Rattle.statement.specs.Contents.{statement_written}
use Rattle.statement.specs.Cut.{cut_statement, no_digest}
use Rattle.rules.specs.Outcomes.{given}
use Rattle.rules.specs.Table.{widened}
use Rattle.rules.specs.Rows.{receipt_of}
use Rattle.rules.specs.New.{one_more, new_refusal, making}
use Rattle.rules.proofs.Noted.{row_of, Makeable, makeable}
use Rattle.safety.specs.Calls.{Keeper, Call, lent, outcome_of, left_by, statements_in}
use Rattle.safety.specs.Calls as calls
use Rattle.safety.proofs.Views.{View, notes}
use Rattle.safety.proofs.Tales.{says}
use Rattle.safety.proofs.Ended.{unless_refused, Gives, gives, seen_by, alone_in}
use Rattle.safety.proofs.Sizes.{Whole}
use Rattle.safety.proofs.LooksChanged.{widened_shows, widened_grows}
use Rattle.safety.proofs.Receipts.{Signed, new_signed, notes_one}

module _ (Hashes : List ℕ → Type 0) (Said : List ℕ → Statement → Type 0) (key : List ℕ) (k : Keeper) (label area : List ℕ) where
  abbrev this : Call
  this = calls.New label area

  abbrev place : ℕ
  place = row_of (lent k area) label

  abbrev left : Keeper
  left = record { head = one_more k.head; table = widened k.table place label }

  abbrev word : List ℕ
  word = statement_written (receipt_of k.head New label no_digest)

  abbrev Looks : Type 0
  Looks = View Hashes Said k (left_by key k this) (says key k this)

  module _ (whole : Whole k.head) (sized : length label ≡ label_bytes) where
    noting : Makeable (lent k area) label → Gives key k this word (one_more k.head) (widened k.table place label) area → Looks
    unfolding statements_in
    noting m g =
        let nonzero : not (all_zero label) ≡ true = ap not m.labelled in
        let s : Signed left receipt_size word =
        new_signed k.head whole label no_digest (sized) refl left refl refl nonzero refl
        (widened_shows k.head.count k.table label place m.fit m.few (sized) m.new) in
        seen_by g.leaves (ap (map cut_statement) g.signs ∙ ap (λ (t : List ℕ). cut_statement t ∷ []) (alone_in area word receipt_size s.long))
        (notes (record {
          was = m.was;
          is = m.was;
          stays = record { identity = refl; own = refl; previous = refl };
          grows = widened_grows k.head.count k.table label place m.fit m.few (sized) m.new;
          notes = notes_one left (cut_statement word) s.shows;
        }))

    pub seen_new : Looks
    unfolding outcome_of making
    seen_new =
        unless_refused key k this Hashes Said (new_refusal (lent k area) label) 0 area (given word (one_more k.head) (widened k.table place label) area) refl
        (λ e o. noting (makeable (lent k area) label e) (gives key k this word (one_more k.head) (widened k.table place label) area o))
