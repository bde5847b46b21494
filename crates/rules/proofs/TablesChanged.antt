-- A table with a row more, and one with a row moved on: as long as before, and of bytes where its parts are. Assumes nothing.
use mathlib.Core.Path.{◌≡◌}
use mathlib.Core.List.{List, ◌++◌}
use Prim.Native.Nat.{ℕ, ◌+◌, ◌*◌, ◌≤◌}
use native.Mathlib.Omega.{arith}
use lib.ListN.{length, take, drop, replicate, length-append, length-take, length-drop}
use Rattle.octets.specs.Numbers.{bytes_of}
use Rattle.octets.proofs.Exact.{Octets, octets_take, octets_drop}
use Rattle.octets.proofs.Bytes.{octets_append, octets_zeros, octets_number, octets_put}
use Rattle.octets.proofs.Numbers.{bytes_length}
use Rattle.octets.proofs.Puts.{put-length}
use Rattle.rows.specs.Sizes.{label_bytes, tail_bytes, height_bytes, row_bytes}
use Rattle.rules.specs.Table.{new_row, widened, moved}

pub widened_octets : (rows : List ℕ) (i : ℕ) (label : List ℕ) → Octets rows → Octets label → Octets (widened rows i label)
unfolding widened
widened_octets rows i label o p =
    octets_take (length rows) (take (row_bytes * i) rows ++ new_row label ++ drop (row_bytes * i) rows)
    (octets_append (take (row_bytes * i) rows ++ new_row label) (drop (row_bytes * i) rows)
    (octets_append (take (row_bytes * i) rows) (new_row label) (octets_take (row_bytes * i) rows o)
    (octets_append label (replicate (tail_bytes + height_bytes) 0) p (octets_zeros (tail_bytes + height_bytes))))
    (octets_drop (row_bytes * i) rows o))

pub widened-length : (rows : List ℕ) (i : ℕ) (label : List ℕ) → length (widened rows i label) ≡ length rows
unfolding widened
widened-length rows i label = simp (length-take, length-append, length-drop) (omega arith)

pub moved_octets : (rows : List ℕ) (i : ℕ) (tail : List ℕ) (height : ℕ) → Octets rows → Octets tail → Octets (moved rows i tail height)
unfolding moved
moved_octets rows i tail height o p =
    octets_put rows (row_bytes * i + label_bytes) (tail ++ bytes_of height_bytes height) o
    (octets_append tail (bytes_of height_bytes height) p (octets_number height_bytes height))

pub moved_length :
    (rows : List ℕ) (i : ℕ) (tail : List ℕ) (height : ℕ) → length tail ≡ tail_bytes → row_bytes * i + row_bytes ≤ length rows
    → length (moved rows i tail height) ≡ length rows
unfolding moved
moved_length rows i tail height l h =
    put-length rows (row_bytes * i + label_bytes) (tail ++ bytes_of height_bytes height)
    (omega (arith, length-append tail (bytes_of height_bytes height), bytes_length height_bytes height))
