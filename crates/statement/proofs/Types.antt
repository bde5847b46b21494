-- What owning a statement tells of its fields: the arrays have their lengths, the numbers 64 bits; and so it has its kind's length. Assumes nothing.
use mathlib.Core.List.{List}
use denote.Laws.{Is}
use denote.Struct.Declared.{row}
use Rattle.statement.specs.declared.Kind.{Kind}
use Rattle.statement.specs.declared.Kind.TheVariants.{Blank, New, Append, Read, Finalise, Initialise}
use Rattle.statement.specs.declared.Statement.{Statement}
use Rattle.statement.specs.Shape.{Arrays, Numbers, Shaped}
use Rattle.statement.proofs.Records.{fits_kind, written_length}
use mir.Val.{Val}
use denote.Enum.Declared as Enum
use Rattle.statement.specs.contracts.Kind as K
use Rattle.statement.specs.contracts.Statement as T

numbers : (k : Kind) (vs : List Val) → Is (Enum.row K.the_type) k vs → Numbers k
numbers Blank vs g = tt
numbers New vs g = tt
numbers (Append height) vs g = g.1.1.1.1.0.1
numbers (Read height nonce-high nonce-low) vs g = let n = g.1.1.1.1 in (n.0.1, n.1.0.1, n.1.1.0.1)
numbers Finalise vs g = tt
numbers Initialise vs g = tt

pub arrays : (v : Statement) (vs : List Val) → Is (row T.the_type) v vs → Arrays v
arrays v vs g =
    let a = g.1.1.1 in
    record {
      identity = a.0.1.0.1;
      own = a.1.0.1.0.1;
      label = a.1.1.0.1.0.1;
      tail = a.1.1.1.0.1.0.1;
      other = a.1.1.1.1.0.1.0.1;
      roll = a.1.1.1.1.1.0.1.0.1;
    }

pub shaped : (v : Statement) (vs : List Val) → Is (row T.the_type) v vs → Shaped v
shaped v vs g = record { arrays = arrays v vs g; numbers = numbers v.kind _ g.1.1.0 }

-- how many bytes a statement that fits is written as
pub ruleset lengths = (arrays, fits_kind, written_length)
