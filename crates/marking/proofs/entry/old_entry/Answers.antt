use Prim.Native.Nat.{◌+◌}
use native.Mathlib.Omega.{arith}
use borrow.Author.Tests.{leb-true}
use Rattle.bundle.proofs.Places.{old_later}
use Rattle.bundle.proofs.Listed.{then_is}
use Rattle.marking.proofs.entry.old_entry.Goals as goal

pub old_at-requires : goal.old_at-requires
old_at-requires c =
    let s = c.args.s.now in
    let i = c.args.number in
    (omega (arith, leb-true _ _ (then_is _ _ _ c.in_ok-old_end.ensures).0, old_later s i (i + 1) (omega arith)), c.requires)
