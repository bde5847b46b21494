-- Runs of calls on ledgers, and what belongs to a company of the calls, the replies and the rows.
use Rattle.std.specs.Prelude.{Bool, true, cond, ◌&&◌, List, [], ◌∷◌, ℕ, length, take, eqb}
use Rattle.octets.specs.Strings.{pieces}
use Rattle.rows.specs.Sizes.{label_bytes, row_bytes}
use Rattle.rules.specs.Companies.{belongs}
use Rattle.safety.specs.Calls.{Keeper}
use Rattle.companies.specs.Calls.{Asking, Reply}

-- a run from what a program keeps, by what each call tells and leaves
module _ {S : Type 0} (tells : S → Asking → Reply) (leaves : S → Asking → S) where
  -- the replies, in the order of the calls
  unfoldable pub replies : S → List Asking → List Reply
  replies s [] = []
  replies s (a ∷ run) = tells s a ∷ replies (leaves s a) run

  -- what is there at the end
  unfoldable pub after : S → List Asking → S
  after s [] = s
  after s (a ∷ run) = after (leaves s a) run

-- those of a list for which a test holds, in their order
unfoldable pub those : {A : Type 0} → (A → Bool) → List A → List A
those test [] = []
those test (x ∷ l) = cond (test x) (x ∷ those test l) (those test l)

-- a company's calls, the first company's or the other's; its replies; its rows, each with its label, tail and height
unfoldable pub calls_of : Bool → List Asking → List Asking
calls_of first run = those (λ a. belongs a.label first) run

unfoldable pub replies_to : Bool → List Reply → List Reply
replies_to first rs = those (λ r. belongs r.label first) rs

unfoldable pub rows_of : Bool → ℕ → List ℕ → List (List ℕ)
rows_of first count table = those (λ row. belongs (take label_bytes row) first) (pieces row_bytes count table)

abbrev pub rows_in : Bool → Keeper → List (List ℕ)
rows_in first k = rows_of first k.head.count k.table

-- 01: "Keys, digests, labels and nonces are taken at their fixed sizes." It is asked of labels alone.
unfoldable pub labelled : List Asking → Bool
labelled [] = true
labelled (a ∷ run) = eqb (length a.label) label_bytes && labelled run
