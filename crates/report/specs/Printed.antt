-- What is printed. 02, M-103: "It prints a heading, one line per asked label in order of first appearance (label in lower-case hex, accepted, refused, highest
-- accepted height or `-`), then a line of totals."
use Rattle.std.specs.Prelude.{cond, List, [], ◌∷◌, ◌++◌, ℕ, take, eqb}
use Rattle.night.specs.declared.Line.{Line}
use Rattle.night.specs.declared.Totals.{Totals}
use Rattle.night.specs.declared.Night.{Night}
use Rattle.night.specs.Pass.{start, blocks, passed}
use Rattle.report.specs.Text.{hex_of, decimal_of}

-- "label accepted refused top"
abbrev pub heading : List ℕ
heading = 108 ∷ 97 ∷ 98 ∷ 101 ∷ 108 ∷ 32 ∷ 97 ∷ 99 ∷ 99 ∷ 101 ∷ 112 ∷ 116 ∷ 101 ∷ 100 ∷ 32 ∷ 114 ∷ 101 ∷ 102 ∷ 117 ∷ 115 ∷ 101 ∷ 100 ∷ 32 ∷ 116 ∷ 111 ∷ 112 ∷ 10 ∷ []

abbrev pub newline : List ℕ
newline = 10 ∷ []

-- a number behind a space
abbrev pub spaced : ℕ → List ℕ
spaced n = (32 ∷ []) ++ decimal_of n

-- "highest accepted height or `-`"
unfoldable pub top_text : ℕ → ℕ → List ℕ
top_text accepted top = cond (eqb accepted 0) (32 ∷ 45 ∷ []) (spaced top)

-- "label in lower-case hex, accepted, refused, highest accepted height or `-`"
unfoldable pub line_text : Line → List ℕ
line_text l = hex_of l.label ++ ((spaced l.accepted ++ spaced l.refused) ++ (top_text l.accepted l.top ++ newline))

unfoldable pub lines_text : List Line → List ℕ
lines_text [] = []
lines_text (l ∷ ls) = line_text l ++ lines_text ls

-- "blocks ", " racks ", " over ", " damaged "
abbrev pub blocks_name : List ℕ
blocks_name = 98 ∷ 108 ∷ 111 ∷ 99 ∷ 107 ∷ 115 ∷ 32 ∷ []

abbrev pub racks_name : List ℕ
racks_name = 32 ∷ 114 ∷ 97 ∷ 99 ∷ 107 ∷ 115 ∷ 32 ∷ []

abbrev pub over_name : List ℕ
over_name = 32 ∷ 111 ∷ 118 ∷ 101 ∷ 114 ∷ 32 ∷ []

abbrev pub damaged_name : List ℕ
damaged_name = 32 ∷ 100 ∷ 97 ∷ 109 ∷ 97 ∷ 103 ∷ 101 ∷ 100 ∷ 32 ∷ []

-- "a line of totals"
unfoldable pub totals_text : Totals → List ℕ
totals_text t =
    ((blocks_name ++ decimal_of t.blocks) ++ (racks_name ++ decimal_of t.racks))
    ++ (((over_name ++ decimal_of t.over) ++ (damaged_name ++ decimal_of t.damaged)) ++ newline)

-- the heading, the lines, the totals
unfoldable pub printed : Night → List ℕ
printed n = heading ++ (lines_text (take n.known n.lines) ++ totals_text n.totals)

-- no report is longer: the heading has 27 bytes, 63 lines at most 96 each, the totals at most 110
abbrev pub most_text : ℕ
most_text = 6200

-- the report of a file
unfoldable pub report : List ℕ → List ℕ
report file = printed (passed start file (blocks file))
