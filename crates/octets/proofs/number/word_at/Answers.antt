use mathlib.Core.Path.{◌≡◌, ap, ◌∙◌}
use native.Mathlib.Omega.{arith}
use lib.ListN.{length, take, drop, length-drop}
use lib.Seq.{length-take-le}
use Rattle.std.specs.Int.{w32, from_be_bytes}
use Rattle.octets.proofs.Numbers.{number_sum}
use Rattle.octets.proofs.number.word_at.Goals as goal

pub returns : goal.returns
returns c =
    let s = drop c.args.at c.args.s.now in
    let n : length (take 4 s) ≡ 4 = length-take-le 4 s (omega (arith, length-drop c.args.at c.args.s.now)) in
    c.from_be_bytes.ensures ∙ ap (from_be_bytes w32) c.array_at.ensures ∙ number_sum 3 (take 4 s) n
