-- The morning report as one function of a file's bytes. 02, M-103: "a file of 512-byte blocks"; a receipt is "judged under the nearest undamaged rack before it,
-- and refused if there is none"; "It prints a heading, one line per asked label in order of first appearance (label in lower-case hex, accepted, refused,
-- highest accepted height or `-`), then a line of totals. From the 64th label on, receipts are counted only as `over`."
use Rattle.std.specs.Prelude.{Bool, not, cond, ◌&&◌, List, [], ◌∷◌, ◌++◌, map, ℕ, zero, suc, ◌+◌, max, length, eqb, ltb}
use Rattle.refusals.specs.{accepted}
use Rattle.octets.specs.Strings.{same}
use Rattle.rack.specs.Racks.{is_among}
use Rattle.checks.specs.Check.{block_at}
use Rattle.desk.specs.declared.Finding.{Finding}
use Rattle.receipts.specs.Block.{rack_type, receipt_type, damaged, rack_in, label_in, sort}
use Rattle.receipts.specs.Judged.{finding}
use Rattle.night.specs.declared.Line.{Line}
use Rattle.night.specs.declared.Totals.{Totals}
use Rattle.night.specs.Lines.{most_labels}
use Rattle.night.specs.Pass.{blocks}
use Rattle.report.specs.Printed.{heading, lines_text, totals_text}

-- what block i is
unfoldable pub is_rack : List ℕ → ℕ → Bool
is_rack file i = eqb (sort (block_at file i)) rack_type

unfoldable pub is_receipt : List ℕ → ℕ → Bool
is_receipt file i = eqb (sort (block_at file i)) receipt_type

unfoldable pub is_damaged : List ℕ → ℕ → Bool
is_damaged file i = eqb (sort (block_at file i)) damaged

unfoldable pub label : List ℕ → ℕ → List ℕ
label file i = label_in (block_at file i)

-- the nearest undamaged rack before block n; empty where there is none
unfoldable pub nearest : List ℕ → ℕ → List ℕ
nearest file zero = []
nearest file (suc n) = cond (is_rack file n) (rack_in (block_at file n)) (nearest file n)

-- the desk's finding of the receipt in block i
unfoldable pub judgement : List ℕ → ℕ → Finding
judgement file i = finding (nearest file i) (block_at file i)

-- the labels of the receipts before block n, in order of first appearance, at most 63
unfoldable pub labels : List ℕ → ℕ → List (List ℕ)
labels file zero = []
labels file (suc n) =
    cond (is_receipt file n && (not (is_among (label file n) (labels file n)) && ltb (length (labels file n)) most_labels))
    (labels file n ++ (label file n ∷ []))
    (labels file n)

-- of how many of the first n blocks a test holds
unfoldable pub how_many : (ℕ → Bool) → ℕ → ℕ
how_many test zero = 0
how_many test (suc n) = how_many test n + cond (test n) 1 0

-- block i is a receipt of the label, and accepted; or refused
unfoldable pub accepts : List ℕ → List ℕ → ℕ → Bool
accepts file l i = is_receipt file i && (same l (label file i) && eqb (judgement file i).number accepted)

unfoldable pub refuses : List ℕ → List ℕ → ℕ → Bool
refuses file l i = is_receipt file i && (same l (label file i) && not (eqb (judgement file i).number accepted))

-- the highest accepted height of the label
unfoldable pub highest : List ℕ → List ℕ → ℕ → ℕ
highest file l zero = 0
highest file l (suc n) = cond (accepts file l n) (max (highest file l n) (judgement file n).height) (highest file l n)

-- "label .., accepted, refused, highest accepted height"
unfoldable pub told_line : List ℕ → ℕ → List ℕ → Line
told_line file n l = record { label = l; accepted = how_many (accepts file l) n; refused = how_many (refuses file l) n; top = highest file l n }

-- "From the 64th label on, receipts are counted only as `over`": a receipt whose label has no line
unfoldable pub is_over : List ℕ → ℕ → Bool
is_over file i = is_receipt file i && not (is_among (label file i) (labels file (suc i)))

unfoldable pub told_totals : List ℕ → ℕ → Totals
told_totals file n = record { blocks = n; racks = how_many (is_rack file) n; over = how_many (is_over file) n; damaged = how_many (is_damaged file) n }

-- the report of a file
unfoldable pub told : List ℕ → List ℕ
told file = heading ++ (lines_text (map (told_line file (blocks file)) (labels file (blocks file))) ++ totals_text (told_totals file (blocks file)))
