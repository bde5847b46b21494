use Rattle.report.specs.Text.{hex_of}
use lib.ListN.{length, take}
use Prim.Native.Nat.{◌*◌}
use mathlib.Core.Path.{◌≡◌}
use Rattle.report.proofs.digits.hex_text.Given as goal

abbrev pub invariant-loop-i : goal.invariant-loop-i
invariant-loop-i l = (length l.text ≡ 32) × (take (2 * l.i) l.text ≡ hex_of (take l.i l.b-items))
