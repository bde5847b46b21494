use lib.ListN.{take, drop}
use Prim.Native.Nat.{◌+◌}
use mathlib.Core.Path.{◌≡◌}
use Rattle.night.specs.Lines.{place}
use Rattle.night.proofs.Night.place_of.Given as goal

abbrev pub invariant-loop-i : goal.invariant-loop-i
invariant-loop-i l =
    let ls = take l.self.known l.self.lines in
    place l.label ls ≡ l.i + place l.label (drop l.i ls)
