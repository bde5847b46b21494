-- The layout of statements, and the whole outcome of reading by it. 01, "Layouts": "Reading a .. statement by itself refuses with .. 23, exactly when the
-- layout is broken; writing one refuses with that number for contents no reading gives, then with 1 for an area too short."
use Rattle.std.specs.Prelude.{ℕ, cond, List}
use Rattle.refusals.specs.{accepted, statement_not_asked}
use Rattle.octets.specs.Layouts.{Layout, holds}
use Rattle.statement.specs.declared.Statement.{Statement}
use Rattle.statement.specs.Contents.{statement_written, statement_fits}
use Rattle.statement.specs.Cut.{blank_statement, cut_statement}

abbrev pub statement_layout : Layout Statement
statement_layout = record { written = statement_written; cut = cut_statement; fits = statement_fits }

-- the answer of a reading, and the statement: the blank one where the answer is a refusal
pub record Reading : Type 0 where
  pub answer : ℕ
  pub statement : Statement

-- "Result fields not named for an answer are zero."
unfoldable pub reading : List ℕ → Reading
reading s =
    cond (holds statement_layout s)
    (record { answer = accepted; statement = cut_statement s })
    (record { answer = statement_not_asked; statement = blank_statement })
