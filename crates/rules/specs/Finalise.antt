-- 01, "Finalise (next rack; 3,713): 1, 2; if already finalised, the earlier statement and roll again, the argument not read, marked as a repeat with
-- nothing to sign; then 4, 6. Gives the statement, then the roll blocks; the chip signs, then erases its key."
-- 02, M-107: "Nor shall Finalise take a next rack of two; .. 38 directly after 6 .. for the next rack in Finalise."
use Rattle.std.specs.Prelude.{not, cond, List, [], ◌∷◌, ◌++◌, ℕ, eqb}
use Rattle.refusals.specs.{not_active, rack_broken, rack_of_two}
use Rattle.refusals.specs.Order.{◌⇒◌, first}
use Rattle.octets.specs.Layouts.{holds}
use Rattle.rack.specs.Racks.{rack_layout, rack_digest, is_of_two}
use Rattle.rows.specs.Digests.{roll_digest}
use Rattle.roll.specs.Roll.{roll_layout}
use Rattle.statement.specs.declared.Kind.TheVariants.{Finalise}
use Rattle.statement.specs.Contents.{statement_written}
use Rattle.statement.specs.Cut.{no_digest, no_label}
use Rattle.rules.specs.declared.Head.{Head}
use Rattle.rules.specs.Record.{active, finalised}
use Rattle.rules.specs.Outcomes.{Lent, Outcome, given, again, unless, lending}

-- "3,713": a statement and seven blocks
abbrev pub finalise_size : ℕ
finalise_size = 3713

-- a finalise statement: "own rack digest, next rack digest, roll digest"
unfoldable pub finalise_statement : List ℕ → List ℕ → List ℕ → List ℕ → List ℕ
finalise_statement identity own next roll =
    statement_written (record { kind = Finalise; identity = identity; own = own; label = no_label; tail = no_digest; other = next; roll = roll })

-- "the statement, then the roll blocks"
unfoldable pub last_words : Head → List ℕ → List ℕ
last_words h table =
    finalise_statement h.identity h.own h.next (roll_digest h.count table)
    ++ roll_layout.written (record { count = h.count; rows = table })

abbrev pub handed_over : Head → List ℕ → Head
handed_over h next =
    record { status = finalised; count = h.count; key = h.key; identity = h.identity; own = h.own; previous = h.previous; next = rack_digest next }

-- of a keeper that is not finalised yet
unfoldable pub finalise_refusal : Lent → List ℕ → ℕ
finalise_refusal k next =
    first
    ((not (eqb k.head.status active) ⇒ not_active)
    ∷ (not (holds rack_layout next) ⇒ rack_broken)
    ∷ (is_of_two next ⇒ rack_of_two)
    ∷ [])

unfoldable pub leaving : Lent → List ℕ → Outcome
leaving k next =
    unless (finalise_refusal k next) 0 k
    (given (last_words (handed_over k.head next) k.table) (handed_over k.head next) k.table k.area)

unfoldable pub finalising : Lent → List ℕ → Outcome
finalising k next =
    unless (first (lending finalise_size k)) 0 k
    (cond (eqb k.head.status finalised) (again (last_words k.head k.table) k) (leaving k next))
