use mathlib.Core.Path.{◌≡◌, ap, ◌∙◌}
use native.Mathlib.Omega.{arith}
use lib.ListN.{length, take, drop, length-drop}
use lib.Seq.{length-take-le}
use Rattle.std.specs.Int.{w64, from_be_bytes}
use Rattle.octets.proofs.Numbers.{number_sum}
use Rattle.octets.proofs.number.number_at.Goals as goal

pub returns : goal.returns
returns c =
    let s = drop c.args.at c.args.s.now in
    let n : length (take 8 s) ≡ 8 = length-take-le 8 s (omega (arith, length-drop c.args.at c.args.s.now)) in
    c.from_be_bytes.ensures ∙ ap (from_be_bytes w64) c.array_at.ensures ∙ number_sum 7 (take 8 s) n
