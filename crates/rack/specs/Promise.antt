-- The whole outcome of reading a rack; that of writing one is `writing` of the layouts. 01, "Layouts": "Reading a rack, roll or statement by itself refuses
-- with 6, 15 or 23, exactly when the layout is broken".
use Rattle.std.specs.Prelude.{ℕ, List}
use Rattle.std.proofs.Math.Option.{Option, none, some}
use Rattle.refusals.specs.{accepted, rack_broken}
use Rattle.octets.specs.Layouts.{read}
use Rattle.rack.specs.Racks.{Rack, rack_layout}

-- an answer, how many keys there are, and the fifteen places as the call leaves them
pub record Taken : Type 0 where
  pub answer : ℕ
  pub count : ℕ
  pub keys : List (List ℕ)

-- "A refusal returns its number and changes nothing lent."
unfoldable pub taken : Option Rack → List (List ℕ) → Taken
taken (some r) keys = record { answer = accepted; count = r.count; keys = r.keys }
taken none keys = record { answer = rack_broken; count = 0; keys = keys }

unfoldable pub reading : List ℕ → List (List ℕ) → Taken
reading s keys = taken (read rack_layout s) keys
