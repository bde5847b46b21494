-- A rack put into an area: its count, and its keys one behind the other. Assumes nothing.
use mathlib.Core.Path.{◌≡◌, sym, ap, ◌∙◌}
use mathlib.Core.List.{List, [], flatten}
use Prim.Native.Nat.{ℕ, ◌+◌, ◌*◌, ◌≤◌, ◌<◌}
use native.Mathlib.Omega.{arith}
use lib.ListN.{length, get_or, take, set}
use Rattle.octets.specs.Strings.{put}
use Rattle.octets.proofs.Puts.{put-length, put-put}
use Rattle.octets.proofs.Fronts.{put_behind}
use Rattle.octets.proofs.Pieces.{each_get, flatten_next}
use Rattle.rack.specs.Racks.{Rack, most, key_bytes, rack_bytes, rack_written}
use Rattle.rack.proofs.Racks.{first_bytes}
use Rattle.rack.proofs.Shapes.{Shaped}

pub put_keys_length :
    (r : Rack) → Shaped r → (area : List ℕ) (i : ℕ) → i ≤ most → rack_bytes i ≤ length area
    → length (put area 1 (flatten (take i r.keys))) ≡ length area
put_keys_length r w area i h room = put-length area 1 (flatten (take i r.keys)) (omega (arith, first_bytes r w i h))

-- the keys before it, and one key more
pub put_next :
    (r : Rack) → Shaped r → (area : List ℕ) (i : ℕ) → i < most → rack_bytes (i + 1) ≤ length area
    → put (put area 1 (flatten (take i r.keys))) (1 + key_bytes * i) (get_or r.keys i []) ≡ put area 1 (flatten (take (i + 1) r.keys))
put_next r w area i h room =
    let key : length (get_or r.keys i []) ≡ key_bytes = each_get w.sizes i (omega (arith, w.places)) in
    let first : length (flatten (take i r.keys)) ≡ key_bytes * i = first_bytes r w i (omega arith) in
    put-put area 1 (flatten (take i r.keys)) (get_or r.keys i []) (1 + key_bytes * i) (omega arith) (omega arith)
    ∙ ap (put area 1) (sym (flatten_next r.keys i (omega (arith, w.places))))

-- the count, and all the keys behind it
pub put_rack :
    (r : Rack) → Shaped r → r.count ≤ most → (area : List ℕ) → rack_bytes r.count ≤ length area
    → put (set area 0 r.count) 1 (flatten (take r.count r.keys)) ≡ put area 0 (rack_written r)
unfolding rack_written
put_rack r w few area room = put_behind area r.count (flatten (take r.count r.keys)) (omega (arith, first_bytes r w r.count few))
