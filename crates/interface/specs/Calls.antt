-- The whole outcome of reading and of writing. 01, "Layouts": "Reading a rack, roll or statement by itself refuses with 6, 15 or 23, exactly when the layout
-- is broken; writing one refuses with that number for contents no reading gives, then with 1 for an area too short."
use Rattle.std.specs.Prelude.{cond, List, ℕ, ltb, length, replicate}
use Rattle.std.proofs.Math.Option.{Option, none, some}
use Rattle.refusals.specs.{accepted, area_too_short, rack_broken, roll_broken, statement_not_asked}
use Rattle.octets.specs.Strings.{put}
use Rattle.octets.specs.Layouts.{Written, holds, read, unwritten, writing}
use Rattle.rack.specs.Racks as rack
use Rattle.rack.specs.Racks.{most, key_bytes, rack_layout, rack_digest}
use Rattle.rows.specs.Sizes.{most_rows, label_bytes, tail_bytes}
use Rattle.statement.specs.Kinds.{digest_bytes}
use Rattle.roll.specs.Roll as roll
use Rattle.roll.specs.Roll.{roll_layout}
use Rattle.statement.specs.declared.Statement.{Statement}
use Rattle.statement.specs.Layout.{statement_layout}
use Rattle.table.specs.declared.Row.{Row}
use Rattle.table.specs.Flat.{rows_of}
use Rattle.interface.specs.declared.Rack.{Rack}
use Rattle.interface.specs.declared.Roll.{Roll}
use Rattle.interface.specs.declared.Plain.{Plain}
use Rattle.interface.specs.declared.RackRead.{RackRead}
use Rattle.interface.specs.declared.RollRead.{RollRead}
use Rattle.interface.specs.declared.StatementRead.{StatementRead}
use Rattle.interface.specs.Contents.{key_of, places_of, rack_of, roll_of, plain_of, no_plain, statement_of}

-- "Result fields not named for an answer are zero."
unfoldable pub rack_given : Option rack.Rack → RackRead
rack_given none = record { number = rack_broken; rack = record { count = 0; keys = replicate most (key_of (replicate key_bytes 0)) } }
rack_given (some r) = record { number = accepted; rack = record { count = r.count; keys = places_of r.keys } }

unfoldable pub reading_rack : List ℕ → RackRead
reading_rack s = rack_given (read rack_layout s)

unfoldable pub writing_rack : Rack → List ℕ → Written
writing_rack r area = writing rack_layout rack_broken (rack_of r) area

-- "Rack digest = SHA-256 of 0x03 then the rack."
unfoldable pub digesting_rack : List ℕ → List ℕ → Written
digesting_rack s area =
    cond (holds rack_layout s)
    (cond (ltb (length area) digest_bytes)
    (unwritten area_too_short area)
    (record { answer = accepted; count = digest_bytes; area = put area 0 (rack_digest s) }))
    (unwritten rack_broken area)

abbrev pub no_row : Row
no_row = record { label = replicate label_bytes 0; tail = replicate tail_bytes 0; height = 0 }

unfoldable pub roll_given : Option roll.Roll → RollRead
roll_given none = record { number = roll_broken; roll = record { count = 0; rows = replicate most_rows no_row } }
roll_given (some r) = record { number = accepted; roll = record { count = r.count; rows = rows_of most_rows r.rows } }

unfoldable pub reading_roll : List ℕ → RollRead
reading_roll s = roll_given (read roll_layout s)

unfoldable pub writing_roll : Roll → List ℕ → Written
writing_roll r area = writing roll_layout roll_broken (roll_of r) area

unfoldable pub statement_given : Option Statement → StatementRead
statement_given none = record { number = statement_not_asked; statement = no_plain }
statement_given (some v) = record { number = accepted; statement = plain_of v }

unfoldable pub reading_statement : List ℕ → StatementRead
reading_statement s = statement_given (read statement_layout s)

unfoldable pub writing_statement : Plain → List ℕ → Written
writing_statement p area = writing statement_layout statement_not_asked (statement_of p) area
