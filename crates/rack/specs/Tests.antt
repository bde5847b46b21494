-- What a string is tested for on the way to being read as a rack.
use Rattle.std.specs.Prelude.{ℕ, Bool, ◌&&◌, List, length, get_or, leb, eqb}
use Rattle.rack.specs.Racks.{most, rack_bytes}

-- a count of 1 to 15, and the length that goes with it
unfoldable pub rack_long : List ℕ → Bool
rack_long s = leb 1 (get_or s 0 0) && leb (get_or s 0 0) most && eqb (length s) (rack_bytes (get_or s 0 0))
