use mathlib.Core.Path.{◌≡◌}
use mathlib.Core.List.{map}
use lib.ListN.{length, take}
use Rattle.rack.specs.Racks.{most}
use Rattle.interface.specs.Contents.{bytes_in}
use Rattle.interface.proofs.racks.keys_of.Given as goal

abbrev pub invariant-loop-i : goal.invariant-loop-i
invariant-loop-i l = (length l.keys ≡ most) × (take l.i l.keys ≡ map bytes_in (take l.i l.fn.places))
