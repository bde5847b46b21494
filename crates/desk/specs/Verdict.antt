-- 01, "Verdict (retained identity, rack, asked kind 1 to 3, label, nonce, statement, signers): 6, 22, 23, 24, 16, then for each signer 17, 18. Gives tail
-- and height. Signers are pairs of position and marks, one byte each, at most n whole pairs, positions strictly rising and below n, otherwise 22. The
-- nonce counts for kind 3 only. Asked kinds outside 1 to 3 are 23."
use Rattle.std.specs.Prelude.{Bool, not, cond, ◌&&◌, List, ◌∷◌, ℕ, ◌*◌, ◌/◌, length, drop, eqb, leb, ltb}
use Rattle.refusals.specs.{accepted, rack_broken, list_broken, statement_not_asked, nonce_differs, too_few, signature_not_valid}
use Rattle.refusals.specs.Order.{◌⇒◌, first}
use Rattle.octets.specs.Strings.{same}
use Rattle.octets.specs.Layouts.{holds}
use Rattle.marks.specs.Entries.{entries_fit, marks_tests, pair_position, pair_marks}
use Rattle.rack.specs.Racks.{rack_layout, rack_cut, rack_digest, majority}
use Rattle.statement.specs.declared.Kind.{Kind}
use Rattle.statement.specs.declared.Kind.TheVariants.{Blank, New, Append, Read, Finalise, Initialise}
use Rattle.statement.specs.Kinds.{kind_number, nonce_place}
use Rattle.statement.specs.Cut.{no_digest, cut_statement}
use Rattle.statement.specs.Layout.{statement_layout}
use Rattle.desk.specs.declared.Finding.{Finding}

-- what the desk asks with: the identity that it retains, a rack, a kind, a label and a nonce
pub record Question : Type 0 where
  pub identity : List ℕ
  pub rack : List ℕ
  pub asked : ℕ
  pub label : List ℕ
  pub nonce : List ℕ

-- "pairs of position and marks"
abbrev pub signer_count : List ℕ → ℕ
signer_count signers = length signers / 2

-- "at most n whole pairs, positions strictly rising and below n"
unfoldable pub signers_fit : ℕ → List ℕ → Bool
signers_fit n signers =
    eqb (2 * signer_count signers) (length signers)
    && leb (signer_count signers) n
    && entries_fit n (pair_position signers) (pair_marks signers) (signer_count signers)

-- "statement is not the one asked for: length, layout, kind, identity, rack digest or label"; "Asked kinds outside 1 to 3 are 23."
unfoldable pub is_asked_for : Question → List ℕ → Bool
is_asked_for q s =
    (leb 1 q.asked && leb q.asked 3)
    && holds statement_layout s
    && eqb (kind_number (cut_statement s).kind) q.asked
    && same (cut_statement s).identity q.identity
    && same (cut_statement s).own (rack_digest q.rack)
    && same (cut_statement s).label q.label

-- "The nonce counts for kind 3 only."
unfoldable pub has_other_nonce : Question → List ℕ → Bool
has_other_nonce q s = eqb q.asked 3 && not (same (drop nonce_place s) q.nonce)

-- the height that a kind has; "Kind 1 has height 0"
abbrev pub height_in : Kind → ℕ
height_in Blank = 0
height_in New = 0
height_in (Append height) = height
height_in (Read height nonce-high nonce-low) = height
height_in Finalise = 0
height_in Initialise = 0

unfoldable pub verdict_refusal : Question → List ℕ → List ℕ → ℕ
verdict_refusal q s signers =
    first
    ((not (holds rack_layout q.rack) ⇒ rack_broken)
    ∷ (not (signers_fit (rack_cut q.rack).count signers) ⇒ list_broken)
    ∷ (not (is_asked_for q s) ⇒ statement_not_asked)
    ∷ (has_other_nonce q s ⇒ nonce_differs)
    ∷ (ltb (signer_count signers) (majority (rack_cut q.rack).count) ⇒ too_few)
    ∷ marks_tests signature_not_valid (pair_marks signers) (signer_count signers))

-- "Result fields not named for an answer are zero."
unfoldable pub nothing_shown : ℕ → Finding
nothing_shown n = record { number = n; tail = no_digest; height = 0 }

-- "Gives tail and height."
unfoldable pub shown : List ℕ → Finding
shown s = record { number = accepted; tail = (cut_statement s).tail; height = height_in (cut_statement s).kind }

unfoldable pub judging : Question → List ℕ → List ℕ → Finding
judging q s signers = cond (eqb (verdict_refusal q s signers) accepted) (shown s) (nothing_shown (verdict_refusal q s signers))
