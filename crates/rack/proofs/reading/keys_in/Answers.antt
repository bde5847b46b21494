use mathlib.Core.Path.{◌≡◌, ap, ◌∙◌}
use mathlib.Core.List.{List}
use Prim.Native.Nat.{ℕ, ◌-◌, ◌/◌}
use native.Mathlib.Omega.{arith}
use lib.ListN.{length, take, drop, length-drop}
use lib.Seq.{take_all}
use Rattle.std.specs.Simd.{first_chunks}
use Rattle.rack.specs.Racks.{key_bytes}
use Rattle.rack.proofs.Walks.{first_chunks_are}
use Rattle.rack.proofs.reading.keys_in.Goals as goal

pub returns : goal.returns
returns c =
    let s = c.args.s.now in
    let whole : take (length s - 1) (drop 1 s) ≡ drop 1 s = take_all (length s - 1) (drop 1 s) (omega (arith, length-drop 1 s)) in
    let n : length (drop 1 s) / 32 ≡ c.args.n = omega (arith, length-drop 1 s) in
    c.as_chunks.ensures.front
    ∙ ap (λ (t : List ℕ). first_chunks key_bytes (length t / 32) t) whole
    ∙ ap (λ (k : ℕ). first_chunks key_bytes k (drop 1 s)) n
    ∙ first_chunks_are key_bytes c.args.n (drop 1 s)
