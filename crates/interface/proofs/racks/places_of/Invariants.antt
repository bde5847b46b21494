use mathlib.Core.Path.{◌≡◌}
use mathlib.Core.List.{map}
use lib.ListN.{length, take}
use Rattle.rack.specs.Racks.{most}
use Rattle.interface.specs.Contents.{key_of}
use Rattle.interface.proofs.racks.places_of.Given as goal

abbrev pub invariant-loop-i : goal.invariant-loop-i
invariant-loop-i l = (length l.places ≡ most) × (take l.i l.places ≡ map key_of (take l.i l.fn.keys))
