-- What owning contents of C's types tells of them: what the round trips ask of a rack, a roll and a statement. Assumes nothing.
use mathlib.Core.Path.{◌≡◌, ◌∙◌}
use mathlib.Core.List.{List, [], ◌∷◌, map}
use mir.Val.{Val}
use denote.Laws.{Is}
use denote.Struct.Declared.{row}
use lib.ListN.{length, length-map}
use Rattle.octets.proofs.Pieces.{Each, none, more}
use Rattle.rack.specs.Racks.{most, key_bytes}
use Rattle.rack.proofs.Shapes as rack-shape
use Rattle.rows.specs.Sizes.{most_rows}
use Rattle.table.specs.declared.Row.{Row}
use Rattle.table.specs.contracts.Row as W
use Rattle.table.proofs.RowTrips.{AllTyped, nil, cons}
use Rattle.table.proofs.RowTypes.{Elements, octets, typed_row}
use Rattle.interface.specs.declared.Key.{Key}
use Rattle.interface.specs.declared.Rack.{Rack}
use Rattle.interface.specs.declared.Roll.{Roll}
use Rattle.interface.specs.declared.Plain.{Plain}
use Rattle.interface.specs.Contents.{bytes_in, keys_of, rack_of, statement_of}
use Rattle.interface.proofs.KindTrips.{Typed}
use Rattle.interface.specs.contracts.Key as K
use Rattle.interface.specs.contracts.Rack as R
use Rattle.interface.specs.contracts.Roll as O
use Rattle.interface.specs.contracts.Plain as P

each_key : (keys : List Key) (us : List Val) → Elements (row K.the_type) keys us → Each key_bytes (map bytes_in keys)
each_key [] us g = none
each_key (k ∷ keys) [] g = absurd g
each_key (k ∷ keys) (u ∷ us) g = more g.0.1.1.0.1.0.1 (each_key keys us g.1)

pub rack_typed : (r : Rack) (vs : List Val) → Is (row R.the_type) r vs → rack-shape.Shaped (rack_of r)
unfolding keys_of
rack_typed r vs g =
    let a = g.1.1.1.0 in
    let n : length r.keys ≡ most = a.1.0.1 in
    record { places = length-map r.keys bytes_in ∙ n; sizes = each_key r.keys _ a.1.1 }

each_row : (rows : List Row) (us : List Val) → Elements (row W.the_type) rows us → AllTyped rows
each_row [] us g = nil
each_row (r ∷ rows) [] g = absurd g
each_row (r ∷ rows) (u ∷ us) g = cons (typed_row r (u ∷ []) g.0) (each_row rows us g.1)

pub roll_typed : (r : Roll) (vs : List Val) → Is (row O.the_type) r vs → (length r.rows ≡ most_rows) × AllTyped r.rows
roll_typed r vs g =
    let a = g.1.1.1.0 in
    (a.1.0.1, each_row r.rows _ a.1.1)

pub plain_typed : (p : Plain) (vs : List Val) → Is (row P.the_type) p vs → Typed p
unfolding statement_of
plain_typed p vs g =
    let a = g.1.1.1 in
    let b = a.1.1.1.1.1.1 in
    record {
      arrays =
          record {
            identity = a.0.1.0.1;
            own = a.1.0.1.0.1;
            label = a.1.1.1.1.0.1.0.1;
            tail = a.1.1.1.1.1.0.1.0.1;
            other = a.1.1.0.1.0.1;
            roll = a.1.1.1.0.1.0.1;
          };
      nonce = b.0.1.0.1;
      octets = octets p.nonce _ b.0.1.1;
      height = b.1.0.1;
    }
