-- Each call of the worked history by its rule, Activate apart: accepted at the keeper that is there, with the keeper that it leaves and what it writes.
-- The law of a call is over the key, since one rack's keepers differ in nothing else. Assumes nothing.
use mathlib.Core.Path.{◌≡◌, refl, ap, ◌∙◌}
use mathlib.Core.Bool.{true, false, not, cond, ◌&&◌}
use mathlib.Core.List.{List, [], ◌∷◌, ◌++◌}
use Prim.Native.Nat.{ℕ, ◌+◌}
use lib.ListN.{length, replicate}
use lib.Dec.{eqb}
use Rattle.octets.specs.Numbers.{number_of, bytes_of}
use Rattle.octets.specs.Strings.{all_zero}
use Rattle.std.specs.Prelude.{Result}
use Rattle.rows.specs.Sizes.{table_bytes}
use Rattle.rows.specs.Row.{tail_of, height_of}
use Rattle.rows.specs.Search.{find}
use Rattle.rows.specs.Digests.{appended}
use Rattle.roll.specs.Roll.{roll_layout}
use Rattle.statement.specs.declared.Kind.TheVariants.{New, Append, Initialise}
use Rattle.statement.specs.Contents.{receipt as receipt-written, body, statement_written}
use Rattle.statement.specs.Cut.{no_digest, no_label}
use Rattle.rules.specs.Record.{sound}
use Rattle.rules.specs.Outcomes.{given, lending, readiness}
use Rattle.rules.specs.Table.{widened, moved}
use Rattle.rules.specs.Rows.{is_absent, row_number, receipt_of}
use Rattle.rules.specs.Wake.{waking}
use Rattle.rules.specs.Initialise.{absent, is_in_rack, initialise_refusal, initialise_statement, founded as head-founded, preparing, entered, initialising}
use Rattle.rules.specs.Companies.{company_rows}
use Rattle.rules.specs.New.{new_refusal, making}
use Rattle.rules.specs.Append.{append_refusal, moved_on, append_statement, appending}
use Rattle.rules.specs.Read.{read_kind, reading as reading-rule}
use Rattle.rules.specs.Finalise.{finalise_statement, last_words, finalise_refusal, leaving, finalising}
use Rattle.safety.specs.Calls.{Wake, lent, outcome_of, statements_in, for_signing}
use Rattle.worked.proofs.Strings.{rack_A, rack_B, ledger, entry, nonce, new_tail, digest_A, digest_B, grown_row, young_digest, grown_digest}
use Rattle.worked.proofs.Strings.{empty_table, young_table, grown_table, unchecked, grown_block}
use Rattle.worked.proofs.Digests.{tail_grows}
use Rattle.worked.proofs.Racks.{known_A, known_B, more_than_two}
use Rattle.worked.proofs.Rolls.{Page, young, grown, Kept, young_kept, grown_kept, block-cut, block-holds, roll_digest_is}
use Rattle.worked.proofs.Rolls.{empty_fits, none_found, row_added, row_moved}
use Rattle.worked.proofs.Passing.{end, also, lets_all, takes_effect, front, front_of_two}
use Rattle.worked.proofs.Goings.{Gives, signs_so}
use Rattle.worked.proofs.Story.{head_of, start_table, start, woken, founded, keeping, finalised, prepared, active, receipt, parting, entering, reading}
use Rattle.worked.proofs.Story.{founds, makes, appends, leaves, enters, reads}

-- Wake
start_long : length start_table ≡ table_bytes
unfolding start_table
start_long = refl

wiped : replicate (length start_table) 0 ≡ empty_table
unfolding empty_table
wiped = ap (λ (n : ℕ). replicate n 0) start_long

pub wakes : (who : List ℕ) → Gives who (start who) Wake (woken who) [] []
unfolding outcome_of waking
wakes who =
    record {
      outcome_is =
          takes_effect _ _ _ _ (lets_all (also (ap (λ (n : ℕ). not (eqb n table_bytes)) start_long) end))
          ∙ (λ i. given [] (woken who).head (wiped i) []);
    }

-- Initialise, when founding
pub founds_so : (who : List ℕ) → is_in_rack who rack_A ≡ true
    → Gives who (woken who) founds (founded who) (initialise_statement (founded who).head empty_table) (replicate 129 0)
unfolding outcome_of initialising initialise_refusal readiness lending sound entered
founds_so who e =
    record {
      outcome_is =
          takes_effect _ _ _ _
          (lets_all
          (also refl (also (ap not empty_fits) (also refl (also (ap not known_A.rack_holds) (also (more_than_two known_A) (also (ap not e)
          (also refl (also refl (also refl end))))))))))
          ∙ (λ i.
          let h = head_of 2 0 who (known_A.digest_is i) (known_A.digest_is i) no_digest no_digest in
          given (initialise_statement h empty_table) h empty_table (replicate 129 0));
    }

-- New
pub makes_so : (who : List ℕ)
    → Gives who (founded who) makes (keeping who young) (statement_written (receipt_of (founded who).head New ledger no_digest)) (replicate 121 0)
unfolding outcome_of making new_refusal readiness lending sound all_zero company_rows
makes_so who =
    record {
      outcome_is =
          takes_effect _ _ _ _
          (lets_all
          (also refl (also (ap not empty_fits) (also refl (also refl (also (ap (λ (f : Result ℕ ℕ). not (is_absent f)) none_found)
          (also refl (also refl end))))))))
          ∙ (λ i.
          given (statement_written (receipt_of (founded who).head New ledger no_digest)) (keeping who young).head
          (widened empty_table (row_number (none_found i)) ledger) (replicate 121 0))
          ∙ (λ i. given (statement_written (receipt_of (founded who).head New ledger no_digest)) (keeping who young).head (row_added i) (replicate 121 0));
    }

-- the row that a keeper's search finds
module _ {p : Page} (k : Kept p) where
  height_there : height_of p.table (row_number (find 1 p.table ledger)) ≡ p.height
  height_there = ap (λ (f : Result ℕ ℕ). height_of p.table (row_number f)) k.found ∙ k.height_is

  tail_there : tail_of p.table (row_number (find 1 p.table ledger)) ≡ p.tail
  tail_there = ap (λ (f : Result ℕ ℕ). tail_of p.table (row_number f)) k.found ∙ k.tail_is

-- Append
next_there : appended (tail_of young_table (row_number (find 1 young_table ledger))) entry ≡ new_tail
next_there = ap (λ (t : List ℕ). appended t entry) (tail_there young_kept) ∙ tail_grows

receipt_said : (who : List ℕ) → statement_written (receipt_of (keeping who young).head (Append 1) ledger new_tail) ≡ receipt
unfolding statement_written body receipt-written bytes_of receipt digest_A new_tail
receipt_said who = refl

pub appends_so : (who : List ℕ) → Gives who (keeping who young) appends (keeping who grown) receipt (replicate 121 0)
unfolding outcome_of appending append_refusal readiness lending sound append_statement moved_on
appends_so who =
    record {
      outcome_is =
          takes_effect _ _ _ _
          (lets_all
          (also refl (also (ap not young_kept.fits) (also refl (also (ap is_absent young_kept.found)
          (also (ap (λ (n : ℕ). not (eqb 1 (n + 1))) (height_there young_kept)) (also (ap (λ (n : ℕ). eqb n 4294967295) (height_there young_kept)) end)))))))
          ∙ (λ i.
          given (statement_written (receipt_of (keeping who young).head (Append (height_there young_kept i + 1)) ledger (next_there i)))
          (keeping who young).head (moved young_table (row_number (young_kept.found i)) (next_there i) (height_there young_kept i + 1)) (replicate 121 0))
          ∙ (λ i. given (receipt_said who i) (keeping who young).head (row_moved i) (replicate 121 0));
    }

-- Finalise
pub parting_said : (p : Page) → finalise_statement digest_A digest_A digest_B p.digest ≡ parting p
unfolding finalise_statement statement_written body parting digest_A digest_B
parting_said p = refl

pub leaves_so : {p : Page} (who : List ℕ) → Kept p → Gives who (keeping who p) leaves (finalised who p) (parting p ++ p.block) (replicate 3713 0)
unfolding outcome_of finalising leaving finalise_refusal lending sound last_words
leaves_so {p} who k =
    record {
      outcome_is =
          takes_effect _ _ _ _ (lets_all (also refl (also (ap not k.fits) end)))
          ∙ takes_effect _ _ _ _ (lets_all (also refl (also (ap not known_B.rack_holds) (also (more_than_two known_B) end))))
          ∙ (λ i.
          let h = head_of 3 1 who digest_A digest_A no_digest (known_B.digest_is i) in
          given (last_words h p.table) h p.table (replicate 3713 0))
          ∙ (λ i.
          given (finalise_statement digest_A digest_A digest_B (roll_digest_is k i) ++ k.written_is i) (finalised who p).head p.table (replicate 3713 0))
          ∙ (λ i. given (parting_said p i ++ p.block) (finalised who p).head p.table (replicate 3713 0));
    }

-- Initialise, with the roll of rack A
block_present : absent grown_block ≡ false
unfolding grown_block unchecked grown_row new_tail
block_present = refl

rack_present : absent rack_A ≡ false
unfolding rack_A
rack_present = refl

pub entering_said : (who : List ℕ) → initialise_statement (prepared who).head grown_table ≡ entering
unfolding initialise_statement statement_written body entering digest_A digest_B
entering_said who =
    (λ i.
    statement_written
    (record {
      kind = Initialise;
      identity = digest_A;
      own = digest_B;
      label = no_label;
      tail = no_digest;
      other = digest_A;
      roll = roll_digest_is grown_kept i;
    }))
    ∙ refl

pub enters_so : (who : List ℕ) → is_in_rack who rack_B ≡ true → Gives who (woken who) enters (prepared who) entering (replicate 129 0)
unfolding outcome_of initialising initialise_refusal readiness lending sound entered
enters_so who e =
    record {
      outcome_is =
          takes_effect _ _ _ _
          (lets_all
          (also refl (also (ap not empty_fits) (also refl (also (ap not known_B.rack_holds) (also (more_than_two known_B) (also (ap not e)
          (also (λ i. cond (block_present i) (not (rack_present i)) (rack_present i))
          (also (λ i. not (rack_present i) && not (known_A.rack_holds i))
          (also (λ i. not (block_present i) && not (block-holds grown_kept i)) end))))))))))
          ∙ (λ i.
          let k = lent (woken who) (replicate 129 0) in
          let r = roll_layout.cut grown_block in
          cond (block_present i)
          (entered k (head-founded k.head rack_B) k.table)
          (entered k (preparing k.head digest_A r.count rack_A rack_B) r.rows))
          ∙ (λ i.
          let h = head_of 1 (block-cut grown_kept i).count who digest_A (known_B.digest_is i) (known_A.digest_is i) no_digest in
          given (initialise_statement h (block-cut grown_kept i).rows) h (block-cut grown_kept i).rows (replicate 129 0))
          ∙ (λ i. given (entering_said who i) (prepared who).head grown_table (replicate 129 0));
    }

-- Read
reading_said : (who : List ℕ) → statement_written (receipt_of (active who).head (read_kind 1 nonce) ledger new_tail) ≡ reading
unfolding statement_written body receipt-written number_of bytes_of reading digest_A digest_B new_tail
reading_said who = refl

pub reads_so : (who : List ℕ) → Gives who (active who) reads (active who) reading (replicate 137 0)
unfolding outcome_of reading-rule readiness lending sound
reads_so who =
    record {
      outcome_is =
          takes_effect _ _ _ _ (lets_all (also refl (also (ap not grown_kept.fits) (also refl (also (ap is_absent grown_kept.found) end)))))
          ∙ (λ i.
          given (statement_written (receipt_of (active who).head (read_kind (height_there grown_kept i) nonce) ledger (tail_there grown_kept i)))
          (active who).head grown_table (replicate 137 0))
          ∙ (λ i. given (reading_said who i) (active who).head grown_table (replicate 137 0));
    }

-- what is signed
pub signs_receipt : (who : List ℕ) → for_signing who (keeping who young) appends ≡ receipt ∷ []
unfolding statements_in receipt digest_A new_tail
signs_receipt who = signs_so (appends_so who) ∙ ap (λ (s : List ℕ). s ∷ []) (front 121 (replicate 121 0) receipt refl)

pub signs_young : (who : List ℕ) → for_signing who (keeping who young) leaves ≡ parting young ∷ []
unfolding statements_in parting digest_A digest_B young_digest
signs_young who = signs_so (leaves_so who young_kept) ∙ ap (λ (s : List ℕ). s ∷ []) (front_of_two 129 (replicate 3713 0) (parting young) young.block refl)

pub signs_grown : (who : List ℕ) → for_signing who (keeping who grown) leaves ≡ parting grown ∷ []
unfolding statements_in parting digest_A digest_B grown_digest
signs_grown who = signs_so (leaves_so who grown_kept) ∙ ap (λ (s : List ℕ). s ∷ []) (front_of_two 129 (replicate 3713 0) (parting grown) grown.block refl)

pub signs_entering : (who : List ℕ) → is_in_rack who rack_B ≡ true → for_signing who (woken who) enters ≡ entering ∷ []
unfolding statements_in entering digest_A digest_B grown_digest
signs_entering who e = signs_so (enters_so who e) ∙ ap (λ (s : List ℕ). s ∷ []) (front 129 (replicate 129 0) entering refl)

pub signs_reading : (who : List ℕ) → for_signing who (active who) reads ≡ reading ∷ []
unfolding statements_in reading digest_A digest_B new_tail
signs_reading who = signs_so (reads_so who) ∙ ap (λ (s : List ℕ). s ∷ []) (front 137 (replicate 137 0) reading refl)
