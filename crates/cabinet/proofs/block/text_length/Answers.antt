use mathlib.Core.Path.{◌≡◌, ap, ◌∙◌}
use native.Mathlib.Omega.{arith}
use lib.ListN.{length, take, drop, length-drop}
use lib.Seq.{length-take-le}
use Rattle.std.specs.Int.{w16, from_be_bytes}
use Rattle.octets.proofs.Numbers.{number_sum}
use Rattle.cabinet.specs.Block.{length_in}
use Rattle.cabinet.proofs.block.text_length.Goals as goal

pub returns : goal.returns
unfolding length_in
returns c =
    let s = drop 88 c.args.b.now in
    let n : length (take 2 s) ≡ 2 = length-take-le 2 s (omega (arith, length-drop 88 c.args.b.now)) in
    c.from.ensures ∙ c.from_be_bytes.ensures ∙ ap (from_be_bytes w16) c.array_at.ensures ∙ number_sum 1 (take 2 s) n
