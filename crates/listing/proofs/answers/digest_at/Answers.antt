use mathlib.Core.Path.{refl, ◌∙◌}
use Prim.Native.Nat.{◌+◌, ◌*◌}
use Rattle.listing.proofs.Answered.{digest_part}
use Rattle.listing.proofs.answers.digest_at.Goals as goal

pub returns : goal.returns
returns c = c.array_at.ensures ∙ digest_part c.args.store.now c.args.i (512 * c.args.i + 24) refl
