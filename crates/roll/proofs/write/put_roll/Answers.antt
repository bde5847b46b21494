use mathlib.Core.Path.{ap, ◌∙◌}
use Prim.Native.Nat.{ℕ}
use Rattle.octets.specs.Strings.{put}
use Rattle.roll.specs.Blocks.{first_blocks}
use Rattle.roll.proofs.write.put_roll.Goals as goal

pub returns : goal.returns
returns c =
    let a = c.args in
    c.put_blocks.ensures ∙ ap (λ (k : ℕ). put a.area.now 0 (first_blocks a.count a.rows.now k)) c.blocks-2.ensures
