-- What the tests of C's types tell of bytes and rows. Assumes nothing.
use mathlib.Core.Path.{◌≡◌}
use mathlib.Core.Bool.{true, ◌&&◌}
use mathlib.Core.List.{List, [], ◌∷◌}
use Prim.Native.Nat.{ℕ, zero, suc, ◌^◌}
use borrow.Author.Tests.{eqb-true, ltb-true}
use lib.ListN.{length}
use lib.Dec.{lit<, eqb, ltb}
use Rattle.octets.proofs.Exact.{Octets}
use Rattle.octets.proofs.RoundTrips.{and_left, and_right}
use Rattle.rows.specs.Sizes.{label_bytes, tail_bytes}
use Rattle.table.specs.declared.Row.{Row}
use Rattle.table.proofs.RowTrips.{Typed, AllTyped, nil, cons}
use Rattle.exported.specs.Types.{are_bytes, is_row, are_rows}

pub bytes_octets : (s : List ℕ) → are_bytes s ≡ true → Octets s
unfolding are_bytes
bytes_octets [] e i = lit< tt
bytes_octets (b ∷ s) e zero = ltb-true b 256 (and_left (ltb b 256) (are_bytes s) e)
bytes_octets (b ∷ s) e (suc i) = bytes_octets s (and_right (ltb b 256) (are_bytes s) e) i

row_typed : (r : Row) → is_row r ≡ true → Typed r
unfolding is_row
row_typed r e =
    let long = eqb (length r.label) label_bytes in
    let bytes = are_bytes r.label in
    let tail_long = eqb (length r.tail) tail_bytes in
    let tail_bytes? = are_bytes r.tail in
    let high = ltb r.height (2 ^ 64) in
    let strings = and_left ((long && bytes) && (tail_long && tail_bytes?)) high e in
    let label = and_left (long && bytes) (tail_long && tail_bytes?) strings in
    let tail = and_right (long && bytes) (tail_long && tail_bytes?) strings in
    record {
      label = eqb-true (length r.label) label_bytes (and_left long bytes label);
      tail = eqb-true (length r.tail) tail_bytes (and_left tail_long tail_bytes? tail);
      height = ltb-true r.height (2 ^ 64) (and_right ((long && bytes) && (tail_long && tail_bytes?)) high e);
      label_octets = bytes_octets r.label (and_right long bytes label);
      tail_octets = bytes_octets r.tail (and_right tail_long tail_bytes? tail);
    }

pub rows_typed : (rows : List Row) → are_rows rows ≡ true → AllTyped rows
unfolding are_rows
rows_typed [] e = nil
rows_typed (r ∷ rows) e = cons (row_typed r (and_left (is_row r) (are_rows rows) e)) (rows_typed rows (and_right (is_row r) (are_rows rows) e))
