-- 02, M-108: "While a keeper is active, two runs from the same record that differ only in one company's New, Append and Read calls give the other company's
-- such calls the same answers and the same rows. Initialise, Finalise and Activate show the whole roll and lie outside this." They lie outside here as well:
-- a run is of calls on ledgers alone, and of what Finalise would show after it, the whole roll and its count, nothing is said.
use Rattle.std.specs.Prelude.{◌≡◌, Bool, true, List}
use Rattle.rules.specs.Record.{active, sound}
use Rattle.safety.specs.Calls.{Keeper}
use Rattle.companies.specs.Calls.{Asking, told, left}
use Rattle.companies.specs.Runs.{replies, after, calls_of, replies_to, rows_in, labelled}

abbrev pub Isolated : Type 0
Isolated =
    -- one company, "an active keeper's sound record", whatever rows either company has, and two runs from it
    (first : Bool) (k : Keeper) (run other-run : List Asking)
    → sound k.head k.table ≡ true
    → k.head.status ≡ active
    → labelled run ≡ true
    → labelled other-run ≡ true
    -- "that differ only in" the other "company's .. calls"
    → calls_of first run ≡ calls_of first other-run
    -- "the same answers and the same rows"
    → (replies_to first (replies told left k run) ≡ replies_to first (replies told left k other-run))
    × (rows_in first (after told left k run) ≡ rows_in first (after told left k other-run))
