-- The two verdicts of the worked history: both accepted, at height 1 and with the tail after the entry. Assumes nothing.
use mathlib.Core.Path.{◌≡◌, refl, ap, ◌∙◌}
use mathlib.Core.Bool.{Bool, true, false, not, cond, ◌&&◌}
use mathlib.Core.List.{List, [], ◌∷◌}
use Prim.Native.Nat.{ℕ}
use lib.Dec.{eqb, leb, ltb}
use Rattle.refusals.specs.{accepted}
use Rattle.octets.specs.Numbers.{number_of, bytes_of}
use Rattle.octets.specs.Strings.{all_zero, same}
use Rattle.octets.specs.Layouts.{holds}
use Rattle.marks.specs.Entries.{goes_up, entry_fits, entries_fit, mark_tests, marks_tests}
use Rattle.rack.specs.Racks.{majority}
use Rattle.rows.specs.Row.{row_holds}
use Rattle.statement.specs.Kinds.{kind_number}
use Rattle.statement.specs.Contents.{receipt as receipt-written, body, statement_written, receipt_fits, fits_as, statement_fits}
use Rattle.statement.specs.Cut.{kind_at, receipt_at, cut_as, cut_statement}
use Rattle.statement.specs.Layout.{statement_layout}
use Rattle.desk.specs.declared.Finding.{Finding}
use Rattle.desk.specs.Verdict.{Question, signers_fit, is_asked_for, has_other_nonce, verdict_refusal, nothing_shown, shown, judging}
use Rattle.safety.specs.Histories.{listed}
use Rattle.safety.specs.Chip.{signer_claim}
use Rattle.worked.proofs.Strings.{new_tail, digest_A, digest_B}
use Rattle.worked.proofs.Racks.{Known, known_A, known_B}
use Rattle.worked.proofs.Passing.{end, also, lets_all}
use Rattle.worked.proofs.Goings.{claim}
use Rattle.worked.proofs.Story.{receipt, reading, asks_A, asks_B, signers}

abbrev pub finds : Finding
finds = record { number = accepted; tail = new_tail; height = 1 }

-- opens, with its own name, the statements judged and all that a statement is taken apart by
unfoldable statements : ℕ
unfolding receipt reading digest_A digest_B new_tail number_of bytes_of all_zero same holds row_holds receipt-written body statement_written
    receipt_fits fits_as statement_fits kind_at receipt_at cut_as cut_statement
statements = 0

-- whether the statement is the one asked for, of a rack with this digest
asked_of : Question → List ℕ → List ℕ → Bool
asked_of q s digest =
    (leb 1 q.asked && leb q.asked 3)
    && holds statement_layout s
    && eqb (kind_number (cut_statement s).kind) q.asked
    && same (cut_statement s).identity q.identity
    && same (cut_statement s).own digest
    && same (cut_statement s).label q.label

-- a verdict by two signers of a known rack
module _ (q : Question) (s : List ℕ) {digest a b c : List ℕ} (k : Known q.rack digest a b c) where
  passes : asked_of q s digest ≡ true → has_other_nonce q s ≡ false → verdict_refusal q s signers ≡ accepted
  unfolding verdict_refusal is_asked_for asked_of signers_fit goes_up entry_fits entries_fit mark_tests marks_tests
  passes e n =
      lets_all
      (also (ap not k.rack_holds)
      (also (λ i. not (signers_fit (k.size_is i) signers))
      (also (ap not (ap (asked_of q s) k.digest_is ∙ e))
      (also n (also (λ i. ltb 2 (majority (k.size_is i))) (also refl (also refl (also refl (also refl end)))))))))

  judged_so : asked_of q s digest ≡ true → has_other_nonce q s ≡ false → shown s ≡ finds → judging q s signers ≡ finds
  unfolding judging
  judged_so e n f = ap (λ (x : ℕ). cond (eqb x accepted) (shown s) (nothing_shown x)) (passes e n) ∙ f

  -- what the signers' marks claim
  pub claimed_by_two : listed 2 (signer_claim q s signers) ≡ claim b s ∷ claim a s ∷ []
  unfolding listed signer_claim
  claimed_by_two = λ i. claim (k.b_at i) s ∷ claim (k.a_at i) s ∷ []

pub judged_A : judging asks_A receipt signers ≡ finds
unfolding statements asked_of has_other_nonce shown
judged_A = judged_so asks_A receipt known_A refl refl refl

pub judged_B : judging asks_B reading signers ≡ finds
unfolding statements asked_of has_other_nonce shown
judged_B = judged_so asks_B reading known_B refl refl refl
