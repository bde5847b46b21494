-- M-108 of the exported calls: "two runs from the same record that differ only in one company's New, Append and Read calls give the other company's such
-- calls the same answers and the same rows. Initialise, Finalise and Activate show the whole roll and lie outside this." Calls, replies and runs are those
-- of `companies/specs`; here a record is a head and rows.
use Rattle.std.specs.Prelude.{◌≡◌, Bool, true, ◌&&◌, List, [], ◌∷◌, take}
use Rattle.rules.specs.Record.{active, sound}
use Rattle.rules.specs.Companies.{belongs}
use Rattle.table.specs.declared.Row.{Row}
use Rattle.table.specs.Flat.{flattened}
use Rattle.companies.specs.Calls.{Asking, Reply, call_of}
use Rattle.companies.specs.Runs.{replies, after, those, calls_of, replies_to, labelled}
use Rattle.exported.specs.Types.{are_rows, hands_bytes}
use Rattle.exported.specs.Calls.{Box, held_by, left_by}

-- what an exported call tells, and what it leaves; none of these calls goes by the keeper's key
unfoldable pub told : Box → Asking → Reply
told b a = record { label = a.label; answer = (held_by [] b (call_of a)).answer; area = (held_by [] b (call_of a)).area }

unfoldable pub left : Box → Asking → Box
left b a = left_by [] b (call_of a)

-- a company's rows, of those that the head counts
unfoldable pub rows_of : Bool → Box → List Row
rows_of first b = those (λ r. belongs r.label first) (take b.head.count b.rows)

-- each call of a run is handed bytes
unfoldable pub handed : List Asking → Bool
handed [] = true
handed (a ∷ run) = hands_bytes (call_of a) && handed run

abbrev pub Isolated : Type 0
Isolated =
    (first : Bool) (b : Box) (run other-run : List Asking)
    -- what C's types give
    → are_rows b.rows ≡ true
    → handed run ≡ true
    → handed other-run ≡ true
    → labelled run ≡ true
    → labelled other-run ≡ true
    -- what M-108 supposes
    → sound b.head (flattened b.rows) ≡ true
    → b.head.status ≡ active
    → calls_of first run ≡ calls_of first other-run
    → (replies_to first (replies told left b run) ≡ replies_to first (replies told left b other-run))
    × (rows_of first (after told left b run) ≡ rows_of first (after told left b other-run))
