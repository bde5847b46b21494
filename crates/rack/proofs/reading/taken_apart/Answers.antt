use mathlib.Core.Path.{sym, ap, ap₂, ◌∙◌}
use mathlib.Core.List.{List, ◌++◌}
use Prim.Native.Nat.{ℕ}
use lib.ListN.{length, drop, replicate}
use lib.Seq.{length-take-le}
use Rattle.std.proofs.lemmas.List.{drop-replicate}
use Rattle.octets.proofs.Pieces.{pieces-length}
use Rattle.rack.specs.Racks.{most, key_bytes}
use Rattle.rack.proofs.reading.taken_apart.Goals as goal

pub copy_from_slice-requires : goal.copy_from_slice-requires
copy_from_slice-requires c =
    length-take-le c.args.n _ c.requires.0 ∙ sym (ap length c.keys_in.ensures ∙ pieces-length key_bytes c.args.n (drop 1 c.args.s.now))

pub returns : goal.returns
returns c =
    ap₂ (λ (a b : List (List ℕ)). a ++ b) (c.copy_from_slice.ensures.after ∙ c.keys_in.ensures)
    (drop-replicate c.args.n most (replicate key_bytes 0))
