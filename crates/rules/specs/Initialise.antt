-- 01, "Initialise (identity, roll, previous rack, own rack; 129 bytes out): 1, 2, 3, own rack 6, 7, 8, previous rack 6, 15. With roll and previous rack
-- both of length 0 the rack is founded: identity becomes the own rack digest, the given identity isn't read, and the status is *active* at once. With both
-- present the status is prepared and roll and identity are taken unproved. Own and previous rack digests are set (previous zeros when founding), the next
-- one to zeros. One present alone is 8."
-- 02, M-107: "Initialise shall no longer take an own rack of two. .. Refusals: 38 directly after 6 for the own rack in Initialise".
use Rattle.std.specs.Prelude.{Bool, not, cond, ◌&&◌, List, [], ◌∷◌, ◌++◌, ℕ, length, take, eqb}
use Rattle.refusals.specs.{not_blank, rack_broken, rack_of_two, key_not_in_rack, roll_or_rack_alone, roll_broken}
use Rattle.refusals.specs.Order.{◌⇒◌, first}
use Rattle.octets.specs.Layouts.{holds}
use Rattle.rack.specs.Racks.{rack_layout, rack_digest, rack_cut, is_among, is_of_two}
use Rattle.rows.specs.Digests.{roll_digest}
use Rattle.roll.specs.Roll.{roll_layout}
use Rattle.statement.specs.declared.Kind.TheVariants.{Initialise}
use Rattle.statement.specs.Kinds.{handover_size}
use Rattle.statement.specs.Contents.{statement_written}
use Rattle.statement.specs.Cut.{no_digest, no_label}
use Rattle.rules.specs.declared.Head.{Head}
use Rattle.rules.specs.Record.{blank, prepared, active}
use Rattle.rules.specs.Outcomes.{Lent, Outcome, given, unless, readiness}

-- "of length 0"
abbrev pub absent : List ℕ → Bool
absent s = eqb (length s) 0

-- the key is one of the rack's
unfoldable pub is_in_rack : List ℕ → List ℕ → Bool
is_in_rack key rack = is_among key (take (rack_cut rack).count (rack_cut rack).keys)

unfoldable pub initialise_refusal : Lent → List ℕ → List ℕ → List ℕ → ℕ
initialise_refusal k roll previous own =
    first
    (readiness handover_size blank not_blank k
    ++ (not (holds rack_layout own) ⇒ rack_broken)
    ∷ (is_of_two own ⇒ rack_of_two)
    ∷ (not (is_in_rack k.head.key own) ⇒ key_not_in_rack)
    ∷ (cond (absent roll) (not (absent previous)) (absent previous) ⇒ roll_or_rack_alone)
    ∷ (not (absent previous) && not (holds rack_layout previous) ⇒ rack_broken)
    ∷ (not (absent roll) && not (holds roll_layout roll) ⇒ roll_broken)
    ∷ [])

-- the initialise statement of a head and a table: "previous rack digest (zeros when founding), own rack digest, roll digest"
unfoldable pub initialise_statement : Head → List ℕ → List ℕ
initialise_statement h table =
    statement_written
    (record {
      kind = Initialise;
      identity = h.identity;
      own = h.own;
      label = no_label;
      tail = no_digest;
      other = h.previous;
      roll = roll_digest h.count table;
    })

-- the head of a founded rack's keeper; the table stays without rows
abbrev pub founded : Head → List ℕ → Head
founded h own =
    record { status = active; count = h.count; key = h.key; identity = rack_digest own; own = rack_digest own; previous = no_digest; next = no_digest }

-- the head of a keeper that is to take over a roll
abbrev pub preparing : Head → List ℕ → ℕ → List ℕ → List ℕ → Head
preparing h identity count previous own =
    record { status = prepared; count = count; key = h.key; identity = identity; own = rack_digest own; previous = rack_digest previous; next = no_digest }

-- the keeper with this head and table, and its statement
unfoldable pub entered : Lent → Head → List ℕ → Outcome
entered k h table = given (initialise_statement h table) h table k.area

unfoldable pub initialising : Lent → List ℕ → List ℕ → List ℕ → List ℕ → Outcome
initialising k identity roll previous own =
    unless (initialise_refusal k roll previous own) 0 k
    (cond (absent roll)
    (entered k (founded k.head own) k.table)
    (entered k (preparing k.head identity (roll_layout.cut roll).count previous own) (roll_layout.cut roll).rows))
