-- Contents as C has them, beside those of the layouts. 01, "Layouts": "A rack is taken apart into up to fifteen keys of 32 bytes."; "A parsed statement is
-- one record whose last part depends on its kind.": in C the record is flat, and the fields that its kind has not are zero.
use Rattle.std.specs.Prelude.{cond, ◌&&◌, List, ◌++◌, map, ℕ, take, drop, replicate, eqb}
use Rattle.octets.specs.Numbers.{number_of, bytes_of}
use Rattle.octets.specs.Strings.{same}
use Rattle.rack.specs.Racks as rack
use Rattle.roll.specs.Roll as roll
use Rattle.statement.specs.declared.Kind.{Kind}
use Rattle.statement.specs.declared.Kind.TheVariants.{Blank, New, Append, Read, Finalise, Initialise}
use Rattle.statement.specs.declared.Statement.{Statement}
use Rattle.statement.specs.Kinds.{kind_number, number_bytes}
use Rattle.statement.specs.Cut.{no_digest, no_label}
use Rattle.table.specs.Flat.{flattened}
use Rattle.desk.specs.Verdict.{height_in}
use Rattle.interface.specs.declared.Key.{Key}
use Rattle.interface.specs.declared.Rack.{Rack}
use Rattle.interface.specs.declared.Roll.{Roll}
use Rattle.interface.specs.declared.Plain.{Plain}

abbrev pub key_of : List ℕ → Key
key_of bytes = record { bytes = bytes }

abbrev pub bytes_in : Key → List ℕ
bytes_in k = k.bytes

unfoldable pub keys_of : List Key → List (List ℕ)
keys_of places = map bytes_in places

unfoldable pub places_of : List (List ℕ) → List Key
places_of keys = map key_of keys

abbrev pub rack_of : Rack → rack.Rack
rack_of r = record { count = r.count; keys = keys_of r.keys }

abbrev pub roll_of : Roll → roll.Roll
roll_of r = record { count = r.count; rows = flattened r.rows }

-- "a nonce of 16 bytes"
abbrev pub nonce_bytes : ℕ
nonce_bytes = 16

abbrev pub no_nonce : List ℕ
no_nonce = replicate nonce_bytes 0

-- "3 read: the same and a nonce of 16 bytes"; the other kinds have none
abbrev pub nonce_in : Kind → List ℕ
nonce_in Blank = no_nonce
nonce_in New = no_nonce
nonce_in (Append height) = no_nonce
nonce_in (Read height nonce-high nonce-low) = bytes_of number_bytes nonce-high ++ bytes_of number_bytes nonce-low
nonce_in Finalise = no_nonce
nonce_in Initialise = no_nonce

unfoldable pub plain_of : Statement → Plain
plain_of v =
    record {
      kind = kind_number v.kind;
      identity = v.identity;
      own = v.own;
      other = v.other;
      roll = v.roll;
      label = v.label;
      tail = v.tail;
      nonce = nonce_in v.kind;
      height = height_in v.kind;
    }

-- every field zero
abbrev pub no_plain : Plain
no_plain =
    record {
      kind = 0;
      identity = no_digest;
      own = no_digest;
      other = no_digest;
      roll = no_digest;
      label = no_label;
      tail = no_digest;
      nonce = no_nonce;
      height = 0;
    }

-- "1 new, 2 append", "3 read", "4 finalise", "5 initialise"; no other number is a kind's
unfoldable pub kind_named : ℕ → ℕ → List ℕ → Kind
kind_named number height nonce =
    cond (eqb number 1) New
    (cond (eqb number 2) (Append height)
    (cond (eqb number 3) (Read height (number_of (take number_bytes nonce)) (number_of (take number_bytes (drop number_bytes nonce))))
    (cond (eqb number 4) Finalise
    (cond (eqb number 5) Initialise
    Blank))))

-- the kind of a number, if it has this height and this nonce: of a kind that has none they are zero
unfoldable pub kind_of : ℕ → ℕ → List ℕ → Kind
kind_of number height nonce =
    let k : Kind = kind_named number height nonce in
    cond (eqb (height_in k) height && same (nonce_in k) nonce) k Blank

unfoldable pub statement_of : Plain → Statement
statement_of p =
    record {
      kind = kind_of p.kind p.height p.nonce;
      identity = p.identity;
      own = p.own;
      label = p.label;
      tail = p.tail;
      other = p.other;
      roll = p.roll;
    }
