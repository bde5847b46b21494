use native.Mathlib.Omega.{arith}
use lib.ListN.{take, length-take}
use Rattle.night.proofs.Lined.{place_within}
use Rattle.night.proofs.Night.add_receipt.Goals as goal

pub add_judged-requires-clause-kept : goal.add_judged-requires-clause-kept
add_judged-requires-clause-kept c =
    let n = c.args.self.now in
    (c.requires.kept.0, c.requires.kept.1, omega arith, omega (arith, c.place_of-i.ensures, place_within c.array_at.result (take n.known n.lines), length-take n.known n.lines))
