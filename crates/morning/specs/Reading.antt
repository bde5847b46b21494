-- How far a night is told of a reader's bytes, and what is printed of them. What a reader has left is known where its type says so; of any other reader nothing
-- is said.
use Rattle.std.specs.Prelude.{◌≡◌, ℕ, ◌*◌, List, length, Option, IfSome, Result, Ok, Err, ⊤}
use Rattle.std.specs.declared.io.Error.{Error}
use Rattle.std.specs.Io.KnownBytes.{Keeps, Appends, Consumes, IsAtEnd}
use Rattle.night.specs.declared.Night.{Night}
use Rattle.night.specs.Pass.{blocks, passed}
use Rattle.telling.specs.Told.{told}
use Rattle.morning.specs.declared.Stands.{Stands}
use Rattle.morning.specs.declared.Stands.TheVariants.{More, All}
use Rattle.morning.specs.declared.Failure.{Failure}
use Rattle.morning.specs.declared.Failure.TheVariants.{Unread, Unwritten}

-- the bytes of a piece
abbrev pub piece_bytes : ℕ
piece_bytes = 65536

-- how the reading stands once n bytes of a piece are read of a reader that then has so much left: it goes on where the piece is full, and it is at the end only
-- where nothing is left
abbrev pub StandsAfter : ℕ → Option (List ℕ) → Option (List ℕ) → Result Stands Error → Type 0
StandsAfter n left after (Ok More) = (n ≡ piece_bytes) × Keeps left after
StandsAfter n left after (Ok All) = IsAtEnd left
StandsAfter n left after (Err e) = ⊤

-- a night goes on from an earlier one over the next so many whole pieces of a reader, and where all is read over all that it had
abbrev pub GoesOn : ℕ → Option (List ℕ) → Option (List ℕ) → Night → Night → Result Stands Error → Type 0
GoesOn pieces old new earlier later (Ok More) =
    (read : List ℕ) × Consumes old new read × (length read ≡ piece_bytes * pieces) × (later ≡ passed earlier read (blocks read))
GoesOn pieces old new earlier later (Ok All) = IfSome old (λ file. later ≡ passed earlier file (blocks file))
GoesOn pieces old new earlier later (Err e) = ⊤

-- the report of all that the reader had is printed, at one go; or nothing is, where it could not be read
abbrev pub Prints : Option (List ℕ) → Option (List ℕ) → Option (List ℕ) → Result Unit Failure → Type 0
Prints file old new (Ok u) = IfSome file (λ bytes. Appends old new (told bytes))
Prints file old new (Err (Unread e)) = Keeps old new
Prints file old new (Err (Unwritten e)) = ⊤
