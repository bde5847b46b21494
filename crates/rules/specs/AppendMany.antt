-- 02, M-100: "We want one append call with 1 to 32 entry digests and the expected height of the first. Record and statement are those after appending them
-- one by one. .. Refusals: 32 for a list of 0 or more than 32, after 4; 12 if any entry would pass the top; otherwise append's order."
use Rattle.std.specs.Prelude.{Bool, not, ◌&&◌, List, [], ◌∷◌, ◌++◌, ℕ, ◌+◌, ◌/◌, ◌%◌, length, eqb, leb, ltb}
use Rattle.refusals.specs.{list_of_wrong_length, no_such_ledger, out_of_order, height_at_top, not_active}
use Rattle.refusals.specs.Order.{◌⇒◌, first}
use Rattle.rows.specs.Sizes.{top_height}
use Rattle.statement.specs.declared.Kind.TheVariants.{Append}
use Rattle.statement.specs.Kinds.{digest_bytes, receipt_size}
use Rattle.statement.specs.Contents.{statement_written}
use Rattle.rules.specs.Record.{active}
use Rattle.rules.specs.Outcomes.{Lent, Outcome, given, unless, readiness}
use Rattle.rules.specs.Table.{moved}
use Rattle.rules.specs.Rows.{is_absent, row_number, sought, present_tail, present_height, receipt_of}
use Rattle.rules.specs.Derivation.{grown}

abbrev pub most_entries : ℕ
most_entries = 32

-- the entry digests that a list has, one behind the other
abbrev pub entries : List ℕ → ℕ
entries list = length list / digest_bytes

-- "1 to 32 entry digests", and nothing but whole ones
unfoldable pub is_list : List ℕ → Bool
is_list list = eqb (length list % digest_bytes) 0 && leb 1 (entries list) && leb (entries list) most_entries

-- the tests of an append of many into an area of so many bytes: "32 .. after 4; 12 if any entry would pass the top; otherwise append's order"
unfoldable pub append_many_refusal : ℕ → Lent → List ℕ → List ℕ → ℕ → ℕ
append_many_refusal size k label list expected =
    first
    (readiness size active not_active k
    ++ (not (is_list list) ⇒ list_of_wrong_length)
    ∷ (is_absent (sought k label) ⇒ no_such_ledger)
    ∷ (not (eqb expected (present_height k label + 1)) ⇒ out_of_order)
    ∷ (ltb top_height (present_height k label + entries list) ⇒ height_at_top)
    ∷ [])

-- the row's tail and height after the entries
abbrev pub last_tail : Lent → List ℕ → List ℕ → List ℕ
last_tail k label list = grown (present_tail k label) list (entries list)

abbrev pub last_height : Lent → List ℕ → List ℕ → ℕ
last_height k label list = present_height k label + entries list

-- the table with the row moved on by all of them
unfoldable pub moved_by_all : Lent → List ℕ → List ℕ → List ℕ
moved_by_all k label list = moved k.table (row_number (sought k label)) (last_tail k label list) (last_height k label list)

-- the one statement that is signed, "Heights in between are signed by nobody"
unfoldable pub last_statement : Lent → List ℕ → List ℕ → List ℕ
last_statement k label list = statement_written (receipt_of k.head (Append (last_height k label list)) label (last_tail k label list))

unfoldable pub appending_many : Lent → List ℕ → List ℕ → ℕ → Outcome
appending_many k label list expected =
    unless (append_many_refusal receipt_size k label list expected) (present_height k label) k
    (given (last_statement k label list) k.head (moved_by_all k label list) k.area)
