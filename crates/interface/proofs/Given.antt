-- What the readings below give, as C has it. Assumes nothing.
use mathlib.Core.Path.{◌≡◌, refl, ap, ◌∙◌}
use mathlib.Core.Bool.{Bool, true, false, cond}
use mathlib.Core.List.{List, map}
use mathlib.Core.Option.{Option, none, some}
use Prim.Native.Nat.{ℕ, ◌*◌}
use native.Mathlib.Omega.{arith}
use lib.ListN.{replicate}
use Rattle.octets.specs.Numbers.{number_of}
use Rattle.refusals.specs.{accepted, statement_not_asked}
use Rattle.octets.specs.Layouts.{holds, read}
use Rattle.octets.proofs.Pieces.{pieces_zeros}
use Rattle.rack.specs.Racks as rack
use Rattle.rack.specs.Racks.{most, key_bytes, rack_layout}
use Rattle.rack.specs.Promise.{Taken, taken, reading}
use Rattle.rows.specs.Sizes.{most_rows, row_bytes, table_bytes}
use Rattle.roll.specs.Roll as roll
use Rattle.roll.specs.Roll.{Reading, roll_layout, outcome}
use Rattle.statement.specs.Cut.{blank_statement, cut_statement}
use Rattle.statement.specs.Layout as layout
use Rattle.statement.specs.Layout.{statement_layout}
use Rattle.table.specs.Flat.{row_cut, rows_of}
use Rattle.interface.specs.declared.RackRead.{RackRead}
use Rattle.interface.specs.declared.RollRead.{RollRead}
use Rattle.interface.specs.declared.StatementRead.{StatementRead}
use Rattle.interface.specs.Contents.{places_of, plain_of, no_plain}
use Rattle.interface.specs.Calls.{rack_given, reading_rack, no_row, roll_given, reading_roll, statement_given, reading_statement}
use Rattle.interface.proofs.Mapped.{mapped_same}

abbrev rack_as : Taken → RackRead
rack_as t = record { number = t.answer; rack = record { count = t.count; keys = places_of t.keys } }

rack_is : (o : Option rack.Rack) → rack_as (taken o (replicate most (replicate key_bytes 0))) ≡ rack_given o
unfolding taken rack_given places_of
rack_is none = refl
rack_is (some r) = refl

pub rack_taken : (s : List ℕ) (t : Taken) → t ≡ reading s (replicate most (replicate key_bytes 0)) → rack_as t ≡ reading_rack s
unfolding reading reading_rack
rack_taken s t e = ap rack_as e ∙ rack_is (read rack_layout s)

zero_row : row_cut (replicate row_bytes 0) ≡ no_row
unfolding row_cut number_of
zero_row = refl

zero_rows : (n m : ℕ) → row_bytes * n ≡ m → rows_of n (replicate m 0) ≡ replicate n no_row
unfolding rows_of
zero_rows n m e = ap (map row_cut) (pieces_zeros row_bytes n m (omega arith)) ∙ mapped_same row_cut n (replicate row_bytes 0) ∙ ap (replicate n) zero_row

abbrev roll_as : Reading → RollRead
roll_as t = record { number = t.answer; roll = record { count = t.count; rows = rows_of most_rows t.rows } }

roll_is : (o : Option roll.Roll) (z : List ℕ) → rows_of most_rows z ≡ replicate most_rows no_row → roll_as (outcome o z) ≡ roll_given o
unfolding outcome roll_given
roll_is none z e = rw e
roll_is (some r) z e = refl

pub roll_taken : (s : List ℕ) (t : Reading) → t ≡ roll.reading_roll s (replicate table_bytes 0) → roll_as t ≡ reading_roll s
unfolding roll.reading_roll reading_roll
roll_taken s t e = ap roll_as e ∙ roll_is (read roll_layout s) (replicate table_bytes 0) (zero_rows most_rows table_bytes refl)

abbrev statement_as : layout.Reading → StatementRead
statement_as t = record { number = t.answer; statement = plain_of t.statement }

pub statement_taken : (s : List ℕ) (t : layout.Reading) → t ≡ layout.reading s → statement_as t ≡ reading_statement s
unfolding layout.reading blank_statement read plain_of statement_given reading_statement
statement_taken s t e = ap statement_as e ∙ go (holds statement_layout s)
  where
    go :
        (h : Bool)
        → statement_as (cond h (record { answer = accepted; statement = cut_statement s }) (record { answer = statement_not_asked; statement = blank_statement }))
        ≡ statement_given (cond h (some (cut_statement s)) none)
    go true = refl
    go false = refl

-- what C gets of no statement
pub blank_plain : plain_of blank_statement ≡ no_plain
unfolding blank_statement plain_of
blank_plain = refl
