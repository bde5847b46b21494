-- Append many notes a row that is moved on by several entries, by one statement. Assumes nothing.
use mathlib.Core.Path.{◌≡◌, refl, ap, ◌∙◌}
use mathlib.Core.Bool.{not}
use mathlib.Core.List.{List, [], ◌∷◌, map}
use lib.ListN.{length}
use Prim.Native.Nat.{ℕ}
use native.Mathlib.Omega.{arith}
use Rattle.statement.specs.declared.Statement.{Statement}
use Rattle.statement.specs.Kinds.{label_bytes, digest_bytes, receipt_size}
use Rattle.statement.specs.Cut.{cut_statement}
use Rattle.rules.specs.Outcomes.{given}
use Rattle.rules.specs.Rows.{present_tail, present_height}
use Rattle.rules.specs.AppendMany.{entries, append_many_refusal, last_tail, last_height, moved_by_all, last_statement, appending_many}
use Rattle.rules.proofs.FoundRows.{row_labelled}
use Rattle.rules.proofs.Noted.{row_of, Recordable, recordable}
use Rattle.rules.proofs.TablesLeft.{grown_digest}
use Rattle.safety.specs.Calls.{Keeper, Call, lent, outcome_of, left_by, statements_in}
use Rattle.safety.specs.Calls as calls
use Rattle.safety.proofs.Views.{roll_in, View, notes, Grows, look, standing}
use Rattle.safety.proofs.Tales.{says}
use Rattle.safety.proofs.Ended.{unless_refused, Gives, gives, seen_by, alone_in}
use Rattle.safety.proofs.Sizes.{Whole}
use Rattle.safety.proofs.LooksChanged.{moved_shows, moved_grows}
use Rattle.safety.proofs.Receipts.{Signed, append_signed, notes_one}

module _ (Hashes : List ℕ → Type 0) (Said : List ℕ → Statement → Type 0) (key : List ℕ) (k : Keeper) (label list : List ℕ) (expected : ℕ) (area : List ℕ) where
  abbrev this : Call
  this = calls.AppendMany label list expected area

  abbrev tail : List ℕ
  tail = last_tail (lent k area) label list

  abbrev height : ℕ
  height = last_height (lent k area) label list

  abbrev word : List ℕ
  word = last_statement (lent k area) label list

  abbrev left : Keeper
  left = record { head = k.head; table = moved_by_all (lent k area) label list }

  abbrev Looks : Type 0
  Looks = View Hashes Said k (left_by key k this) (says key k this)

  -- the row as it stands after the entries, and every row reached
  module _ (a : Recordable (lent k area) label list) where
    tailed : length tail ≡ digest_bytes
    tailed = (grown_digest (present_tail (lent k area) label) list (entries list) a.some).long

    shows : look (roll_in left) label ≡ standing height tail
    unfolding moved_by_all
    shows =
        moved_shows k.head.count k.table (row_of (lent k area) label) tail height a.has.within tailed (omega (arith, a.below_top)) label a.has.found

    grows : Grows (roll_in k) (roll_in left)
    unfolding moved_by_all
    grows =
        moved_grows k.head.count k.table (row_of (lent k area) label) tail height a.has.within tailed (omega (arith, a.below_top)) (omega (arith, a.some))

    said : Whole k.head → length label ≡ label_bytes → Signed left receipt_size word
    unfolding last_statement
    said whole sized =
        append_signed k.head whole label tail sized tailed left refl refl height
        (ap not (row_labelled label (present_tail (lent k area) label) (present_height (lent k area) label) a.has.holds))
        (omega (arith, a.some)) a.below_top shows

  module _ (whole : Whole k.head) (sized : length label ≡ label_bytes) where
    noting : Recordable (lent k area) label list → Gives key k this word k.head (moved_by_all (lent k area) label list) area → Looks
    unfolding statements_in
    noting a g =
        let s = said a whole sized in
        seen_by g.leaves (ap (map cut_statement) g.signs ∙ ap (λ (t : List ℕ). cut_statement t ∷ []) (alone_in area word receipt_size s.long))
        (notes (record {
          was = a.has.was;
          is = a.has.was;
          stays = record { identity = refl; own = refl; previous = refl };
          grows = grows a;
          notes = notes_one left (cut_statement word) s.shows;
        }))

    pub seen_append_many : Looks
    unfolding outcome_of appending_many
    seen_append_many =
        unless_refused key k this Hashes Said (append_many_refusal receipt_size (lent k area) label list expected) _ area
        (given word k.head (moved_by_all (lent k area) label list) area) refl
        (λ e o.
        noting (recordable receipt_size (lent k area) label list expected e) (gives key k this word k.head (moved_by_all (lent k area) label list) area o))
