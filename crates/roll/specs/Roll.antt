-- The layout of a roll, and reading and writing by it. 01, "Roll": "0 to 63 rows, labels strictly rising"; "Reading a rack, roll or statement by itself refuses
-- with 6, 15 or 23, exactly when the layout is broken; writing one refuses with that number for contents no reading gives, then with 1 for an area too short."
use Rattle.std.specs.Prelude.{List, ◌++◌, ℕ, ◌-◌, length, get_or, replicate}
use Rattle.std.proofs.Math.Option.{Option, none, some}
use Rattle.refusals.specs.{accepted, roll_broken}
use Rattle.octets.specs.Layouts.{Layout, Written, read, writing}
use Rattle.rows.specs.Sizes.{table_bytes}
use Rattle.rows.specs.Table.{rows_fit}
use Rattle.roll.specs.Blocks.{count_place, blocks, first_blocks, gathered}

-- a roll taken apart: its count, and the table of 63 places that holds its rows and zeros after them
pub record Roll : Type 0 where
  pub count : ℕ
  pub rows : List ℕ

-- "row count of the whole roll", as the first block says it
unfoldable pub said_count : List ℕ → ℕ
said_count s = get_or s count_place 0

-- a string filled up with zeros to a length
unfoldable pub filled : ℕ → List ℕ → List ℕ
filled n s = s ++ replicate (n - length s) 0

unfoldable pub roll_layout : Layout Roll
roll_layout =
    record {
      written = λ v. first_blocks v.count v.rows (blocks v.count);
      cut = λ s. record { count = said_count s; rows = filled table_bytes (gathered s (blocks (said_count s))) };
      fits = λ v. rows_fit v.count v.rows;
    }

-- an answer, the count, and the table as the call leaves it
pub record Reading : Type 0 where
  pub answer : ℕ
  pub count : ℕ
  pub rows : List ℕ

-- "A refusal returns its number .. and changes nothing lent. Result fields not named for an answer are zero."
unfoldable pub outcome : Option Roll → List ℕ → Reading
outcome none area = record { answer = roll_broken; count = 0; rows = area }
outcome (some v) area = record { answer = accepted; count = v.count; rows = v.rows }

unfoldable pub reading_roll : List ℕ → List ℕ → Reading
reading_roll s area = outcome (read roll_layout s) area

unfoldable pub writing_roll : ℕ → List ℕ → List ℕ → Written
writing_roll count rows area = writing roll_layout roll_broken (record { count = count; rows = rows }) area
