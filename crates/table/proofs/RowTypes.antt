-- What owning a row tells of it: the arrays have their lengths and are bytes, the height has 64 bits. Assumes nothing.
use mathlib.Core.List.{List, [], ◌∷◌}
use Prim.Native.Nat.{ℕ, zero, suc}
use mir.Val.{Val}
use denote.Array.{each}
use denote.RattleType.{RattleType}
use denote.Laws.{Is}
use denote.Shadow.{shadow}
use denote.Struct.Declared.{row}
use denote.Builtin.{u8}
use lib.Dec.{lit<}
use Rattle.octets.proofs.Exact.{Octets}
use Rattle.table.specs.declared.Row.{Row}
use Rattle.table.proofs.RowTrips.{Typed}
use Rattle.table.specs.contracts.Row as T

-- an array in a struct holds its elements each in its place
abbrev pub Elements : (R : RattleType) → List R.Denot → List Val → Type 0
Elements R xs us = shadow (each R.Denot R.own_val xs us)

pub octets : (s : List ℕ) (us : List Val) → Elements u8 s us → Octets s
octets [] us g i = lit< tt
octets (b ∷ s) [] g i = absurd g
octets (b ∷ s) (u ∷ us) g zero = g.0.1
octets (b ∷ s) (u ∷ us) g (suc i) = octets s us g.1 i

pub typed_row : (r : Row) (vs : List Val) → Is (row T.the_type) r vs → Typed r
typed_row r vs g =
    let a = g.1.1 in
    record {
      label = a.0.1.0.1;
      tail = a.1.0.1.0.1;
      height = a.1.1.0.1;
      label_octets = octets r.label _ a.0.1.1;
      tail_octets = octets r.tail _ a.1.0.1.1;
    }
