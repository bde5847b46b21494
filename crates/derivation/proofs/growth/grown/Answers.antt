use Rattle.std.proofs.Common.{rules, ◌∙◌, ◌/◌, length}
use Rattle.std.specs.Simd.{first_chunks}
use Rattle.std.proofs.lemmas.Iterator.{YieldsList-from_slice}
use Rattle.std.proofs.lemmas.Iterator.Consumers.{fold_from_yields_List}
use Rattle.rows.specs.Digests.{appended}
use Rattle.derivation.proofs.Growths.{folded}
use Rattle.derivation.proofs.growth.grown.Goals as goal

pub returns : goal.returns
returns c =
    let s = c.args.s.now in
    fold_from_yields_List _ appended c.args.tail c.fold.result c.fold.ensures.ran
    (YieldsList-from_slice (first_chunks 32 (length s / 32) s) (cc (c.iter.ensures.rest, c.as_chunks.ensures.front)))
    (λ a x b q k. search rules)
    ∙ folded c.args.tail s (length s / 32)
