use Rattle.std.proofs.Common.{arith, take, length-take-le}
use Rattle.night.specs.Pass.{blocks}
use Rattle.night.proofs.Keeping.{kept_passed}
use Rattle.morning.proofs.Pieces.{few_blocks, more_blocks}
use Rattle.morning.proofs.read_piece.Goals as goal

pub pass-requires : goal.pass-requires
pass-requires g c =
    let n = c.read_full-n.result in
    let piece = c.read_full-n.new.piece in
    let few = few_blocks (take n piece) (omega (arith, length-take-le n piece c.read_full-n.ensures.within, c.read_full-n.ensures.within, c.read_full-n.ensures.size)) in
    (c.requires.0, omega (arith, c.requires.1))

pub returns-clause-kept : goal.returns-clause-kept
returns-clause-kept g c =
    let n = c.read_full-n.result in
    let piece = c.read_full-n.new.piece in
    let few = few_blocks (take n piece) (omega (arith, length-take-le n piece c.read_full-n.ensures.within, c.read_full-n.ensures.within, c.read_full-n.ensures.size)) in
    let more = more_blocks c.args.night.now c.pass.new.self (take n piece) c.pass.ensures in
    (rw c.pass.ensures (kept_passed c.args.night.now (take n piece) c.requires.0 (blocks (take n piece))), omega arith)
