use lib.ListN.{drop, length}
use Prim.Native.Nat.{◌*◌, ◌≤◌}
use mathlib.Core.Path.{◌≡◌}
use Rattle.checks.specs.Check.{block_bytes}
use Rattle.night.specs.Pass.{blocks, passed}
use Rattle.night.proofs.Night.pass.Given as goal

abbrev pub invariant-loop-block : goal.invariant-loop-block
invariant-loop-block l =
    (l.block-iterator.size ≡ block_bytes) × (drop (block_bytes * length l.yielded) l.s ≡ l.block-iterator.rest.now)
    × (length l.yielded ≤ blocks l.s) × (l.self ≡ passed l.initial.self l.s (length l.yielded))
