-- The report's lines. 02, M-103: "one line per asked label in order of first appearance (label .., accepted, refused, highest accepted height ..)".
use Rattle.std.specs.Prelude.{cond, List, [], ◌∷◌, ℕ, suc, ◌+◌, max, eqb}
use Rattle.refusals.specs.{accepted}
use Rattle.octets.specs.Strings.{same}
use Rattle.desk.specs.declared.Finding.{Finding}
use Rattle.night.specs.declared.Line.{Line}

-- "From the 64th label on" there is no line
abbrev pub most_labels : ℕ
most_labels = 63

-- a label's line before its first receipt
unfoldable pub new_line : List ℕ → Line
new_line label = record { label = label; accepted = 0; refused = 0; top = 0 }

-- stands for a line where there is none
unfoldable pub no_line : Line
no_line = new_line []

-- where the line of a label stands; as many as there are lines where it has none
unfoldable pub place : List ℕ → List Line → ℕ
place label [] = 0
place label (l ∷ ls) = cond (same l.label label) 0 (suc (place label ls))

-- "accepted, refused, highest accepted height"
unfoldable pub line_after : Line → Finding → Line
line_after l f =
    cond (eqb f.number accepted)
    (record { label = l.label; accepted = l.accepted + 1; refused = l.refused; top = max l.top f.height })
    (record { label = l.label; accepted = l.accepted; refused = l.refused + 1; top = l.top })

-- all that lines count
unfoldable pub counted_in : List Line → ℕ
counted_in [] = 0
counted_in (l ∷ ls) = l.accepted + l.refused + counted_in ls
