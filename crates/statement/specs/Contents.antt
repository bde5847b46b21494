-- What statements are written as, and which contents they have. 01, "Layouts", "Statement": "kind, identity 32, then by kind".
use Rattle.std.specs.Prelude.{ℕ, Bool, false, ◌&&◌, List, [], ◌∷◌, ◌++◌, leb}
use Rattle.octets.specs.Numbers.{bytes_of}
use Rattle.octets.specs.Strings.{all_zero}
use Rattle.rows.specs.Row.{row_holds}
use Rattle.statement.specs.declared.Kind.{Kind}
use Rattle.statement.specs.declared.Kind.TheVariants.{Blank, New, Append, Read, Finalise, Initialise}
use Rattle.statement.specs.declared.Statement.{Statement}
use Rattle.statement.specs.Kinds.{kind_number, number_bytes}

-- "own rack digest, label, tail, height"
unfoldable pub receipt : Statement → ℕ → List ℕ
receipt v height = v.own ++ v.label ++ v.tail ++ bytes_of number_bytes height

-- "then by kind": kind 1 has height 0; "3 read: the same and a nonce of 16 bytes"; "4 finalise: own rack digest, next rack digest, roll digest";
-- "5 initialise: previous rack digest .., own rack digest, roll digest"
unfoldable pub body : Statement → Kind → List ℕ
body v Blank = []
body v New = receipt v 0
body v (Append height) = receipt v height
body v (Read height nonce-high nonce-low) = receipt v height ++ bytes_of number_bytes nonce-high ++ bytes_of number_bytes nonce-low
body v Finalise = v.own ++ v.other ++ v.roll
body v Initialise = v.other ++ v.own ++ v.roll

-- "kind, identity 32, then by kind"
unfoldable pub statement_written : Statement → List ℕ
statement_written v = kind_number v.kind ∷ v.identity ++ body v v.kind

-- "Labels in statements are not all zero, heights as in a row": what makes a row; and zeros in the fields that it has not
unfoldable pub receipt_fits : Statement → ℕ → Bool
receipt_fits v height = row_holds v.label v.tail height && (all_zero v.other && all_zero v.roll)

unfoldable pub handover_fits : Statement → Bool
handover_fits v = all_zero v.label && all_zero v.tail

-- "Kind 1 has height 0 and zero tail; kind 2 has height at least 1", of kind 3 "Height 0 has zero tail"
unfoldable pub fits_as : Statement → Kind → Bool
fits_as v Blank = false
fits_as v New = receipt_fits v 0
fits_as v (Append height) = leb 1 height && receipt_fits v height
fits_as v (Read height nonce-high nonce-low) = receipt_fits v height
fits_as v Finalise = handover_fits v
fits_as v Initialise = handover_fits v

unfoldable pub statement_fits : Statement → Bool
statement_fits v = fits_as v v.kind
