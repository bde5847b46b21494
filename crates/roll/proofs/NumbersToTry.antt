-- 01, "Numbers to try", the line marked P of the roll: "blocks for 0, 9, 10, 63 rows: 1, 1, 2, 7". Assumes nothing.
use mathlib.Core.Path.{◌≡◌, refl}
use Rattle.roll.specs.Blocks.{blocks}

pub blocks_tried : (blocks 0 ≡ 1) × (blocks 9 ≡ 1) × (blocks 10 ≡ 2) × (blocks 63 ≡ 7)
unfolding blocks
blocks_tried = (refl, refl, refl, refl)
