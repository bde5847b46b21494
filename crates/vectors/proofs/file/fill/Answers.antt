use native.Mathlib.Omega.{arith}
use mathlib.Core.Path.{sym}
use lib.Seq.{length-take-le}
use Rattle.std.proofs.Common.{◌≤◌, length}
use Rattle.vectors.proofs.file.fill.Goals as goal

pub returns-after-loop-done : goal.returns-after-loop-done
returns-after-loop-done g c =
    let within : c.loop-done.done ≤ length c.loop-done.room = omega arith in
    (within, sym (length-take-le c.loop-done.done c.loop-done.room within))
