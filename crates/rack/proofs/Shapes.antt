-- What the type of an array of arrays says of its value: how many places there are, and that each has its bytes. Assumes nothing.
use mathlib.Core.Path.{◌≡◌}
use mathlib.Core.List.{List, [], ◌∷◌}
use Prim.Native.Nat.{ℕ}
use denote.Plain.{UInt}
use denote.Array.{Array, each}
use denote.Shadow.{shadow}
use denote.Laws.{Is}
use lib.ListN.{length}
use Rattle.octets.proofs.Pieces.{Each, none, more}
use Rattle.rack.specs.Racks.{Rack, most, key_bytes}
use mir.Syntax.{w8}
use mir.Val.{Val}

all_each : (k : ℕ) (xs : List (List ℕ)) (us : List Val) → shadow (each (List ℕ) (Array (UInt w8) k).own_val xs us) → Each k xs
all_each k [] us p = none
all_each k (x ∷ xs) [] p = absurd p
all_each k (x ∷ xs) (u ∷ us) p = more p.0.1.0.1 (all_each k xs us p.1)

-- the fifteen places of a rack that is taken apart
pub record Shaped (r : Rack) : Type 0 where
  pub places : length r.keys ≡ most
  pub sizes : Each key_bytes r.keys

-- what an array's type gives
pub shaped : (n : ℕ) (keys : List (List ℕ)) (vs : List Val) → Is (Array (Array (UInt w8) key_bytes) most) keys vs → Shaped (record { count = n; keys = keys })
shaped n keys vs p = record { places = p.1.0.1; sizes = all_each key_bytes keys p.0 p.1.1 }
