-- Read notes a row as it stands, Append and read one that is moved on, by two statements. Assumes nothing.
use mathlib.Core.Path.{◌≡◌, refl, ap, ap₂, ◌∙◌}
use mathlib.Core.Bool.{true}
use mathlib.Core.List.{List, [], ◌∷◌, ◌++◌, map}
use Prim.Native.Nat.{ℕ, ◌+◌}
use lib.ListN.{length, take, drop}
use Rattle.octets.specs.Numbers.{number_of}
use Rattle.rows.specs.Row.{row_holds}
use Rattle.statement.specs.declared.Statement.{Statement}
use Rattle.statement.specs.Kinds.{label_bytes, number_bytes, receipt_size, reading_size}
use Rattle.statement.specs.Contents.{statement_written}
use Rattle.statement.specs.Cut.{cut_statement}
use Rattle.rules.specs.Outcomes.{given}
use Rattle.rules.specs.Rows.{present_tail, present_height, receipt_of}
use Rattle.rules.specs.Append.{append_refusal, next_tail, next_height, moved_on, append_statement}
use Rattle.rules.specs.Read.{read_kind, reading, appending_and_reading}
use Rattle.rules.proofs.FoundRows.{row_labelled, row_next}
use Rattle.rules.proofs.Noted.{row_of, Rowed, readable, Appendable, appendable}
use Rattle.safety.specs.Calls.{Keeper, Call, lent, outcome_of, left_by, statements_in}
use Rattle.safety.specs.Calls as calls
use Rattle.safety.proofs.Views.{roll_in, View, notes}
use Rattle.safety.proofs.Tales.{says}
use Rattle.safety.proofs.Ended.{unless_refused, Gives, gives, seen_by, alone_in, first_in, next_in}
use Rattle.safety.proofs.Sizes.{Whole, appended_long}
use Rattle.safety.proofs.Looks.{look_at, grows_not}
use Rattle.rules.proofs.RowsParts.{tail_long}
use Rattle.safety.proofs.Receipts.{Signed, read_signed, notes_one, notes_two}
use Rattle.safety.proofs.SeenAppend.{append_shows, append_grows, append_said}

module _ (Hashes : List ℕ → Type 0) (Said : List ℕ → Statement → Type 0) (key : List ℕ) (k : Keeper) (whole : Whole k.head) (label : List ℕ) (sized : length label ≡ label_bytes) where
  module _ (nonce area : List ℕ) where
    abbrev this : Call
    this = calls.Read label nonce area

    abbrev word : List ℕ
    word = statement_written (receipt_of k.head (read_kind (present_height (lent k area) label) nonce) label (present_tail (lent k area) label))

    abbrev Looks : Type 0
    Looks = View Hashes Said k (left_by key k this) (says key k this)

    noting : Rowed (lent k area) label → Gives key k this word k.head k.table area → Looks
    unfolding statements_in
    noting r g =
        let s : Signed k reading_size word =
        read_signed k.head whole label (present_tail (lent k area) label) (sized) (tail_long k.table (row_of (lent k area) label) r.within) k refl refl
        (present_height (lent k area) label) (number_of (take number_bytes nonce)) (number_of (drop number_bytes nonce)) r.holds
        (look_at (roll_in k) label (row_of (lent k area) label) r.found) in
        seen_by g.leaves (ap (map cut_statement) g.signs ∙ ap (λ (t : List ℕ). cut_statement t ∷ []) (alone_in area word reading_size s.long))
        (notes (record {
          was = r.was;
          is = r.was;
          stays = record { identity = refl; own = refl; previous = refl };
          grows = grows_not (roll_in k);
          notes = notes_one k (cut_statement word) s.shows;
        }))

    pub seen_read : Looks
    unfolding outcome_of reading
    seen_read =
        unless_refused key k this Hashes Said _ 0 area (given word k.head k.table area) refl
        (λ e o. noting (readable (lent k area) label e) (gives key k this word k.head k.table area o))

  module _ (entry : List ℕ) (expected : ℕ) (nonce area : List ℕ) where
    abbrev both : Call
    both = calls.AppendAndRead label entry expected nonce area

    abbrev first_word : List ℕ
    first_word = append_statement (lent k area) label entry

    abbrev next_word : List ℕ
    next_word = statement_written (receipt_of k.head (read_kind (next_height (lent k area) label) nonce) label (next_tail (lent k area) label entry))

    abbrev left : Keeper
    left = record { head = k.head; table = moved_on (lent k area) label entry }

    abbrev LooksBoth : Type 0
    LooksBoth = View Hashes Said k (left_by key k both) (says key k both)

    noting_both : Appendable (lent k area) label → Gives key k both (first_word ++ next_word) k.head (moved_on (lent k area) label entry) area → LooksBoth
    unfolding statements_in
    noting_both a g =
        let s = append_said k label entry area a whole sized in
        let named = row_labelled label (present_tail (lent k area) label) (present_height (lent k area) label) a.has.holds in
        let holds : row_holds label (next_tail (lent k area) label entry) (next_height (lent k area) label) ≡ true =
        row_next label (next_tail (lent k area) label entry) (present_height (lent k area) label) named a.below_top in
        let t : Signed left reading_size next_word =
        read_signed k.head whole label (next_tail (lent k area) label entry) (sized) (appended_long (present_tail (lent k area) label) entry) left refl refl
        (next_height (lent k area) label) (number_of (take number_bytes nonce)) (number_of (drop number_bytes nonce)) holds (append_shows k label entry area a) in
        seen_by g.leaves
        (ap (map cut_statement) g.signs
        ∙ ap₂ (λ (x y : List ℕ). cut_statement x ∷ cut_statement y ∷ [])
        (first_in area first_word receipt_size s.long next_word) (next_in area first_word receipt_size s.long next_word reading_size t.long))
        (notes (record {
          was = a.has.was;
          is = a.has.was;
          stays = record { identity = refl; own = refl; previous = refl };
          grows = append_grows k label entry area a;
          notes = notes_two left (cut_statement first_word) (cut_statement next_word) s.shows t.shows;
        }))

    pub seen_append_and_read : LooksBoth
    unfolding outcome_of appending_and_reading
    seen_append_and_read =
        unless_refused key k both Hashes Said (append_refusal (receipt_size + reading_size) (lent k area) label expected) _ area
        (given (first_word ++ next_word) k.head (moved_on (lent k area) label entry) area) refl
        (λ e o.
        noting_both (appendable (receipt_size + reading_size) (lent k area) label expected e)
        (gives key k both (first_word ++ next_word) k.head (moved_on (lent k area) label entry) area o))
