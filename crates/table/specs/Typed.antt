-- What its type says of a row: the arrays have their lengths, each item is a byte, and the height has 64 bits.
use mathlib.Core.List.{List, [], ◌∷◌}
use Rattle.std.specs.Prelude.{◌≡◌, ℕ, ◌<◌, ◌^◌, length, slice_index}
use Rattle.rows.specs.Sizes.{label_bytes, tail_bytes}
use Rattle.table.specs.declared.Row.{Row}

pub record Typed (r : Row) : Type 0 where
  pub label : length r.label ≡ label_bytes
  pub tail : length r.tail ≡ tail_bytes
  pub height : r.height < 2 ^ 64
  pub label_octets : (i : ℕ) → slice_index r.label i < 256
  pub tail_octets : (i : ℕ) → slice_index r.tail i < 256

-- and of each row of several
pub data AllTyped : List Row → Type 0 where
  nil : AllTyped []
  cons : {r : Row} {rs : List Row} → Typed r → AllTyped rs → AllTyped (r ∷ rs)
