use native.Mathlib.Omega.{arith}
use lib.ListN.{length-take}
use Rattle.tries.proofs.layouts.bytes_of_fifteen.Goals as goal

pub slice_bounds-read_rack-end : goal.slice_bounds-read_rack-end
slice_bounds-read_rack-end c = simp length-take (omega arith)
