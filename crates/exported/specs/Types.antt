-- What C's types give of the values that a program hands over: `mahqurith_row` of rows, `uint8_t` of strings.
use Rattle.std.specs.Prelude.{Bool, true, ◌&&◌, List, [], ◌∷◌, ℕ, ◌^◌, length, eqb, ltb}
use Rattle.rows.specs.Sizes.{label_bytes, tail_bytes}
use Rattle.table.specs.declared.Row.{Row}
use Rattle.safety.specs.Calls.{Call, Wake, Initialise, New, Append, AppendMany, Read, AppendAndRead, Finalise, Activate, BytesToCheck}
use Rattle.safety.specs.Histories.{Event, At, Judged}

unfoldable pub are_bytes : List ℕ → Bool
are_bytes [] = true
are_bytes (b ∷ s) = ltb b 256 && are_bytes s

-- "label 16 bytes .., tail 32, height 8"
unfoldable pub is_row : Row → Bool
is_row r =
    (eqb (length r.label) label_bytes && are_bytes r.label)
    && (eqb (length r.tail) tail_bytes && are_bytes r.tail)
    && ltb r.height (2 ^ 64)

unfoldable pub are_rows : List Row → Bool
are_rows [] = true
are_rows (r ∷ rows) = is_row r && are_rows rows

-- a call is handed bytes; it is asked only of what is taken into the table
unfoldable pub hands_bytes : Call → Bool
hands_bytes Wake = true
hands_bytes (Initialise identity roll previous own area) = are_bytes roll
hands_bytes (New label area) = are_bytes label
hands_bytes (Append label entry expected area) = true
hands_bytes (AppendMany label list expected area) = true
hands_bytes (Read label nonce area) = true
hands_bytes (AppendAndRead label entry expected nonce area) = true
hands_bytes (Finalise next area) = true
hands_bytes (Activate previous own bundle) = true
hands_bytes (BytesToCheck previous own bundle list entry area) = true

-- so is each call of a history
unfoldable pub handed_bytes : List Event → Bool
handed_bytes [] = true
handed_bytes (At key call ∷ h) = hands_bytes call && handed_bytes h
handed_bytes (Judged q s signers ∷ h) = handed_bytes h
