use mathlib.Core.Path.{◌∙◌}
use native.Mathlib.Omega.{arith}
use lib.ListN.{take}
use Rattle.std.proofs.Common.{rules, tests}
use Rattle.std.proofs.lemmas.Iterator.{YieldsList-from_slice}
use Rattle.std.proofs.lemmas.Iterator.Search.{all_from_yields_List}
use Rattle.handover.proofs.Kept.{flags_all}
use Rattle.handover.proofs.keeping.all_kept.Goals as goal

pub returns : goal.returns
returns c =
    all_from_yields_List (λ k. k) _ _ c.all.result c.all.ensures.ran (YieldsList-from_slice (take c.args.rows c.args.kept.now) (cc)) (λ x b q k. search (rules, tests))
    ∙ flags_all c.args.kept.now c.args.rows (omega (arith, c.requires))
